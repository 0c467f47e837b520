-- The page after a hand move.
use Rattle.std.proofs.Common.{◌≡◌, ℕ, ◌+◌, ◌<◌, ◌≤◌, max, ◌⊎◌, List, length, arith}
use Rattle.motion.specs.declared.moves.Move.{Move}
use Rattle.motion.specs.Tree.{Tree}
use Rattle.motion.specs.Demand.{figure_of}
use Rattle.motion.specs.Moves.{moved, Legal}
use Rattle.motion.specs.State.{State, Balances}
use Rattle.motion.specs.Calls.{hand_moved}
use Rattle.motion.proofs.Crossings.{one_demand_changes, figure_moved}

-- a legal move leads between two sections of different numbers
pub legal_apart : (n : ℕ) (inner wagons : List ℕ) (m : Move) → Tree n inner → Legal n inner wagons m → (m.to < m.from) ⊎ (m.from < m.to)
legal_apart n inner wagons m tree legal = grind arith

module _ (n : ℕ) (inner wagons berths : List ℕ) (m : Move) (tree : Tree n inner) (long : n ≤ length wagons) (legal : Legal n inner wagons m) where
  -- a legal move raises or lowers the figure by one
  pub figure_by_one : (figure_of n inner (moved wagons m) berths ≡ figure_of n inner wagons berths + 1) ⊎ (figure_of n inner (moved wagons m) berths + 1 ≡ figure_of n inner wagons berths)
  figure_by_one = grind (arith, one_demand_changes n inner wagons berths m tree long legal, figure_moved n inner wagons berths m tree long legal (max m.from m.to))

-- moves + figure = head + 2 × away, also after it
pub hand_balances : (x : State) (m : Move) → Tree x.sections x.inner → x.sections ≤ length x.wagons → Legal x.sections x.inner x.wagons m → Balances x → Balances (hand_moved x m)
hand_balances x m tree long legal law = grind (arith, figure_by_one)
