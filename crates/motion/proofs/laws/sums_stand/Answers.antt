use Rattle.motion.proofs.Underneath.{below_found, below_is}
use Rattle.motion.proofs.Splits.{sum_below_splits}
use Rattle.motion.proofs.laws.sums_stand.Goals as goal

pub returns : goal.returns
returns c = record {
  below_is_tested = λ n inner tree s t l. (below_found n inner tree l, below_is n inner tree s t l);
  sum_below_splits = λ n inner xs tree s l. sum_below_splits n inner tree xs s l;
}
