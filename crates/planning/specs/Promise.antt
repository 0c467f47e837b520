-- The promise of a run: what holds of a siding after it is drawn up and acted on.
use Rattle.std.specs.Prelude.{◌≡◌, List, ◌∷◌, ◌++◌, Ok, Err, Result}
use Rattle.refusal.specs.declared.Refusal.{Refusal}
use Rattle.motion.specs.State.{State, figure, Balances, EqualNumbers}
use Rattle.motion.specs.Promises.{Least, SteppingOnFills, AwayMeansNoShortest}
use Rattle.motion.specs.Calls.{After, Passing}
use Rattle.motion.specs.declared.calls.Act.{Act}
use Rattle.siding.specs.declared.siding.Siding.{Siding}
use Rattle.siding.specs.Stands.{state_of}
use Rattle.planning.specs.declared.account.Account.{Account}

-- from the siding that the sheet describes, after the acts
pub record Promise (acts : List Act) (start end : State) : Type 0 where
  -- the siding stands where the acts put it
  pub stands : After acts start end
  -- moves + figure = head + 2 × away, whether wagons and berths are equal in number or not
  pub page_balances : Balances end
  -- where they are, the moves due fill every berth in just as many moves as the figure says, and no filling list is shorter
  pub figure_is_least : EqualNumbers end → Least end
  -- and stepping on from a turned page meets no refusal, makes that many moves, and leaves every berth filled
  pub stepping_fills : EqualNumbers end → SteppingOnFills end
  -- a hand move done with equal numbers counts as away exactly if no shortest filling list begins with it
  pub away_means_no_shortest : AwayMeansNoShortest acts start end

-- The run, from the siding that the sheet describes, by the acts, to where it ends. An act is a put, a take, a mark, an
-- unmark, a hand move, a page turn or a step.
pub record Passage (acts : List Act) (start end : State) : Type 0 where
  pub promise : Promise acts start end
  -- the acts put the siding nowhere else
  pub nowhere_else : (other : State) → After acts start other → other ≡ end
  -- and the run passes through each of them
  pub passes_through :
      (before : List Act) (a : Act) (after : List Act) → acts ≡ before ++ (a ∷ after)
      → (x : State) × (y : State) × Passing before a after start x y end

-- what drawing up made of the sheet decides: the promise holds, or nothing has changed
abbrev pub Run : Result State Refusal → List Act → Siding → Siding → Type 0
Run (Ok start) acts before after = Passage acts start (state_of after)
Run (Err e) acts before after = after ≡ before

-- what the siding says, or why the sheet was refused
abbrev pub accounted : Result State Refusal → State → Result Account Refusal
accounted (Ok start) end = Ok (record { figure = figure end; head = end.head; moves = end.moves; away = end.away })
accounted (Err e) end = Err e
