-- The order in which sections are visited, and the first unsettled section.
use Rattle.std.specs.Prelude.{◌≡◌, ℕ, ◌<◌, List, pos}
use Rattle.motion.specs.Tree.{Branch, Below}
use Rattle.motion.specs.Demand.{demand_of}

-- s is visited before t: from the neck, a section comes before its branches, and each branch with all below it before
-- the next higher one. So t lies below a branch of s, or they lie below two branches of one section, s below the lower
pub data Before (n : ℕ) (inner : List ℕ) (s t : ℕ) : Type 0 where
  above : {c : ℕ} → Branch n inner s c → Below inner c t → Before n inner s t
  beside : {p a b : ℕ} → Branch n inner p a → Branch n inner p b → a < b → Below inner a s → Below inner b t → Before n inner s t

-- some branch of u has a demand other than 0
pub record Unsettled (n : ℕ) (inner wagons berths : List ℕ) (u : ℕ) : Type 0 where
  pub at : ℕ
  pub branch : Branch n inner u at
  pub wants : demand_of n inner wagons berths at ≡ pos 0 → ⊥

-- no section is unsettled
abbrev pub AllSettled : ℕ → List ℕ → List ℕ → List ℕ → Type 0
AllSettled n inner wagons berths = (u : ℕ) → u < n → Unsettled n inner wagons berths u → ⊥

-- u is the first unsettled section
pub record FirstUnsettled (n : ℕ) (inner wagons berths : List ℕ) (u : ℕ) : Type 0 where
  pub within : u < n
  pub unsettled : Unsettled n inner wagons berths u
  pub none_before : (t : ℕ) → t < n → Before n inner t u → Unsettled n inner wagons berths t → ⊥
