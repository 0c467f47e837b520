use Rattle.motion.proofs.OneDue.{one_due}
use Rattle.motion.proofs.DueMoves.{due_while_unsettled, due_is_legal}
use Rattle.motion.proofs.StepsEnd.{stepping_ends, one_stepping, stepping_fills}
use Rattle.motion.proofs.Plans.{steps_are_the_plan}
use Rattle.motion.proofs.laws.steps_stand.Goals as goal

pub returns : goal.returns
returns c = record {
  one_due = one_due;
  due_while_unsettled = due_while_unsettled;
  due_is_legal = due_is_legal;
  stepping_ends = stepping_ends;
  one_stepping = one_stepping;
  stepping_fills = stepping_fills;
  steps_are_the_plan = steps_are_the_plan;
}
