-- Other wagons or berths in a siding: what has to hold of them.
use Rattle.std.specs.Prelude.{◌≡◌, ℕ, ◌<◌, ◌≤◌, cond, ℤ, pos, ◌+ℤ◌, unsigned_abs}
use Rattle.motion.specs.Tree.{is_below}
use Rattle.motion.specs.Demand.{demand_of}
use Rattle.siding.specs.declared.siding.Siding.{Siding}
use Rattle.siding.specs.declared.placed.Placed.{Placed}
use Rattle.siding.specs.Kept.{Clear}

-- these may stand there, and change the demands by so much at each section that `at` lies below
pub record MayStand (x : Siding) (wagons berths : Placed) (at : ℕ) (by : ℤ) : Type 0 where
  pub within : at < x.track.sections
  pub one : unsigned_abs by ≤ 1
  pub clear_wagons : Clear x.track.sections wagons.in_section
  pub clear_berths : Clear x.track.sections berths.in_section
  pub demands :
      (s : ℕ) → s < x.track.sections
      → demand_of x.track.sections x.track.inner wagons.in_section berths.in_section s
      ≡ demand_of x.track.sections x.track.inner x.wagons.in_section x.berths.in_section s +ℤ cond (is_below x.track.inner s at) by (pos 0)
