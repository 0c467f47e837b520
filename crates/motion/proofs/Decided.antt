-- What holds, or does not: two facts, orders, branches, neighbours, legal moves.
use Rattle.std.proofs.Common.{ℕ, ◌<◌, ◌⊎◌, List, arith}
use Rattle.motion.specs.declared.moves.Move.{Move}
use Rattle.motion.specs.Tree.{Branch}
use Rattle.motion.specs.Moves.{Neighbours, Legal}

pub both : {P Q : Type 0} → P ⊎ (P → ⊥) → Q ⊎ (Q → ⊥) → (P × Q) ⊎ (P × Q → ⊥)
both p q = grind arith

pub below_or_not : (a b : ℕ) → (a < b) ⊎ (a < b → ⊥)
below_or_not a b = grind arith

pub branch_or_not : (n : ℕ) (inner : List ℕ) (s c : ℕ) → Branch n inner s c ⊎ (Branch n inner s c → ⊥)
branch_or_not n inner s c = grind arith

pub neighbours_or_not : (n : ℕ) (inner : List ℕ) (a b : ℕ) → Neighbours n inner a b ⊎ (Neighbours n inner a b → ⊥)
neighbours_or_not n inner a b = grind (arith, branch_or_not n inner a b, branch_or_not n inner b a)

pub legal_or_not : (n : ℕ) (inner wagons : List ℕ) (m : Move) → Legal n inner wagons m ⊎ (Legal n inner wagons m → ⊥)
legal_or_not n inner wagons m = grind arith
