-- What holds of every siding, and so after every run.
use Rattle.std.proofs.Common.{◌+◌, List, subst, sym, ap, ◌∙◌, arith}
use Rattle.motion.specs.State.{Balances}
use Rattle.motion.specs.Calls.{After, Sound}
use Rattle.motion.specs.declared.calls.Act.{Act}
use Rattle.motion.proofs.Runs.{one_end, every_split}
use Rattle.motion.proofs.Promised.{least, stepping_on_fills, away_means_no_shortest}
use Rattle.siding.specs.declared.siding.Siding.{Siding}
use Rattle.siding.specs.Stands.{state_of}
use Rattle.siding.proofs.Held.{held_tree, one_wagon, one_berth}
use Rattle.planning.specs.Promise.{Promise, Passage}

pub sound : (x : Siding) → Sound (state_of x)
sound x = record {
  some = omega (arith, x.track.some);
  tree = held_tree x;
  long_wagons = omega (arith, x.track.most, x.wagons.long);
  long_berths = omega (arith, x.track.most, x.berths.long);
  one_wagon = one_wagon x;
  one_berth = one_berth x;
}

balances : (x : Siding) → Balances (state_of x)
balances x = ap (λ f. x.page.moves + f) (sym x.sums) ∙ x.balances

-- a run from one siding to another
promised : (acts : List Act) (start end : Siding) → After acts (state_of start) (state_of end) → Promise acts (state_of start) (state_of end)
promised acts start end run = record {
  stands = run;
  page_balances = balances end;
  figure_is_least = least (state_of end) (sound end);
  stepping_fills = stepping_on_fills (state_of end) (sound end) end.track.most;
  away_means_no_shortest = away_means_no_shortest acts (state_of start) (state_of end) (sound start);
}

pub passed : (acts : List Act) (start end : Siding) → After acts (state_of start) (state_of end) → Passage acts (state_of start) (state_of end)
passed acts start end run = record {
  promise = promised acts start end run;
  nowhere_else = λ other led. one_end acts (state_of start) other (state_of end) (sound start) led run;
  passes_through = λ before a after e. every_split before a after (state_of start) (state_of end) (subst (λ (all : List Act). After all (state_of start) (state_of end)) e run);
}
