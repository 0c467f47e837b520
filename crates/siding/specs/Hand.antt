-- What a hand move needs, and what it does at the section that it crosses.
use Rattle.std.specs.Prelude.{◌≡◌, ◌<◌, max}
use Rattle.motion.specs.Demand.{demand_of, figure_of}
use Rattle.motion.specs.Moves.{moved, Legal}
use Rattle.motion.specs.State.{most_moves}
use Rattle.motion.specs.declared.moves.Move.{Move}
use Rattle.siding.specs.declared.siding.Siding.{Siding}
use Rattle.siding.specs.declared.siding.hand.Crossing.{Crossing}

-- the move is legal, and there is room for it on the page
pub record MayMove (x : Siding) (m : Move) : Type 0 where
  pub legal : Legal x.track.sections x.track.inner x.wagons.in_section m
  pub room : x.page.moves < most_moves

-- the higher of the two sections, its demand after the move, and the figure after it
pub record Crosses (x : Siding) (m : Move) (c : Crossing) : Type 0 where
  pub section : c.section ≡ max m.from m.to
  pub demand : c.demand ≡ demand_of x.track.sections x.track.inner (moved x.wagons.in_section m) x.berths.in_section c.section
  pub figure : c.figure ≡ figure_of x.track.sections x.track.inner (moved x.wagons.in_section m) x.berths.in_section
