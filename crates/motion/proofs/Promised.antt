-- What is promised of every siding, and of every run, holds.
use Rattle.std.proofs.Common.{◌≡◌, ℕ, zero, suc, ◌+◌, ◌<◌, ◌≤◌, ltb, List, [], ◌∷◌, replicate, refl, ap, ◌∙◌, inl, inr, ⊎_elim, arith, rules}
use Rattle.std.proofs.lemmas.Bool.{lt-ltb, le-ltb}
use Rattle.motion.specs.declared.moves.Move.{Move}
use Rattle.motion.specs.declared.calls.Act.{Act}
use Rattle.motion.specs.declared.calls.Act.TheVariants.{Call as Called, Step}
use Rattle.motion.specs.declared.calls.Call.TheVariants.{Hand, Turn}
use Rattle.motion.specs.Moves.{Legal, Leads, Filled, one_if}
use Rattle.motion.specs.Stepping.{Stepping, Even}
use Rattle.motion.specs.State.{State, figure, page_begun, EqualNumbers, most_moves}
use Rattle.motion.specs.Calls.{Does, DueIn, SettledIn, Makes, After, Sound, stepped}
use Rattle.motion.specs.Promises.{FillsFrom, ShortestFrom, Least, SteppedOut, Exactly, AwayMeansNoShortest}
use Rattle.motion.proofs.Bounds.{figures_within}
use Rattle.motion.proofs.Changed.{total_moved}
use Rattle.motion.proofs.DueMoves.{some_due, due_is_legal}
use Rattle.motion.proofs.Floors.{figure_is_a_floor}
use Rattle.motion.proofs.Pages.{figure_by_one}
use Rattle.motion.proofs.Runs.{even_from, sound_moved, sound_after, settled_or_not}
use Rattle.motion.proofs.StepsEnd.{stepping_ends, stepping_fills}

module _ (x : State) (sound : Sound x) (equal : EqualNumbers x) where
  even : Even x.sections x.inner x.wagons x.berths
  even = even_from x sound equal

  pub least : Least x
  least = grind (arith, stepping_ends, stepping_fills, figure_is_a_floor)

  -- settled means filled, and no move to make
  settled_filled : SettledIn x → (figure x ≡ 0) × Filled x.sections x.wagons x.berths
  settled_filled settled = grind (arith, stepping_fills x.sections x.inner x.wagons x.berths [] x.wagons even (Stepping.settled settled))

  -- a move that is due lowers the figure
  due_lowers : (m : Move) → DueIn x m → Legal x.sections x.inner x.wagons m × (figure (stepped x m) + 1 ≡ figure x)
  due_lowers m due = due_is_legal x.sections x.inner x.wagons x.berths m even due

  unmoved_settled : figure x ≡ 0 → SettledIn x
  unmoved_settled none =
      elim (settled_or_not x) [
        | inl un ↦ (let due = some_due x.sections x.inner x.wagons x.berths even un.0 un.1 un.2 in grind (arith, due_lowers due.0 due.1))
        | inr settled ↦ settled
      ]

  -- with moves to make and room for one, a step makes one
  step_moves : 0 < figure x → x.moves < most_moves → (y : State) → Makes Step x y → (m : Move) × (DueIn x m × (y ≡ stepped x m))
  step_moves some room y (Makes.done (_, inl (m, due, _, e))) = (m, (due, e))
  step_moves some room y (Makes.done (_, inr (settled, e))) = grind (arith, settled_filled)
  step_moves some room y (Makes.refused none e) =
      elim (settled_or_not x) [
        | inl un ↦ (let due = some_due x.sections x.inner x.wagons x.berths even un.0 un.1 un.2 in absurd (none (stepped x due.0) (equal, inl (due.0, due.1, room, refl))))
        | inr settled ↦ grind (arith, settled_filled settled)
      ]

-- as many steps as the figure says
steps_out : (k : ℕ) (x z : State) → Sound x → EqualNumbers x → figure x ≡ k → x.moves + k ≤ most_moves → After (replicate k Step) x z
    → (z.moves ≡ x.moves + k) × (z.away ≡ x.away) × SettledIn z × Filled z.sections z.wagons z.berths
steps_out zero x z sound equal is room After.start = grind (arith, unmoved_settled x sound equal is, settled_filled)
steps_out (suc k) x z sound equal is room (After.then made rest) =
    let moves = step_moves x sound equal (omega arith) (omega arith) _ made in
    let does = due_lowers x sound equal moves.0 moves.1.0 in
    let even_then : EqualNumbers (stepped x moves.0) = total_moved x.sections x.inner sound.tree x.wagons moves.0 does.0 sound.long_wagons ∙ equal in
    let out = steps_out k (stepped x moves.0) z (sound_moved x moves.0 sound does.0) even_then (omega (arith, does.1)) (omega arith) (rw moves.1.1 at rest) in
    (omega (arith, out.0), out.1, out.2, out.3)

pub stepping_on_fills : (x : State) → Sound x → x.sections ≤ 512 → EqualNumbers x → (z : State) → After (Called Turn ∷ replicate (figure x) Step) x z → SteppedOut x z
stepping_on_fills x sound most equal z (After.then (Makes.done e) rest) =
    let turned = page_begun x in
    let fresh : Sound turned = search rules in
    let few = figures_within x.sections x.inner x.wagons x.berths most sound.one_wagon sound.one_berth in
    grind (arith, steps_out (figure x) turned z fresh equal refl (omega arith) (rw e at rest))
stepping_on_fills x sound most equal z (After.then (Makes.refused none e) rest) = absurd (none (page_begun x) refl)

-- a hand move that lowers the figure begins a shortest list, and one that raises it begins none
hand_means : (x y : State) (m : Move) → Sound x → EqualNumbers x → Does (Hand m) x y
    → Exactly (y.away ≡ x.away + 1) ((ms : List Move) → ShortestFrom x (m ∷ ms) → ⊥)
hand_means x y m sound equal (legal, room, e) =
    let next = stepped x m in
    let even_then : EqualNumbers next = total_moved x.sections x.inner sound.tree x.wagons m legal sound.long_wagons ∙ equal in
    let here = least x sound equal in
    let there = least next (sound_moved x m sound legal) even_then in
    let counted : y.away ≡ x.away + one_if (ltb (figure x) (figure next)) = ap (λ (s : State). s.away) e in
    ⊎_elim
    (λ (up : figure next ≡ figure x + 1).
    let one : one_if (ltb (figure x) (figure next)) ≡ 1 = ap one_if (lt-ltb (figure x) (figure next) (omega arith)) in (
      λ _ ms shortest.
          let rest = after_first x m ms shortest.fills in
          let long = there.none_shorter ms rest in
          omega (arith, shortest.least here.moves_due here.fills, here.count),
      λ _. omega arith,
    ))
    (λ (down : figure next + 1 ≡ figure x).
    let none : one_if (ltb (figure x) (figure next)) ≡ 0 = ap one_if (le-ltb (figure x) (figure next) (omega arith)) in (
      λ away. absurd (omega arith),
      λ never. absurd (never there.moves_due (record {
        fills = record { end = there.fills.end; leads = Leads.goes legal there.fills.leads; filled = there.fills.filled };
        least = λ others f. omega (arith, here.none_shorter others f, there.count);
      })),
    ))
    (figure_by_one x.sections x.inner x.wagons x.berths m sound.tree sound.long_wagons legal)
  where
    after_first : (x : State) (m : Move) (ms : List Move) → FillsFrom x (m ∷ ms) → FillsFrom (stepped x m) ms
    after_first x m ms fills = from_leads fills.leads fills.filled
      where
        from_leads : {end : List ℕ} → Leads x.sections x.inner x.wagons (m ∷ ms) end → Filled x.sections end x.berths → FillsFrom (stepped x m) ms
        from_leads (Leads.goes legal rest) filled = record { end = _; leads = rest; filled = filled }

pub away_means_no_shortest : (acts : List Act) (entry exit : State) → Sound entry → AwayMeansNoShortest acts entry exit
away_means_no_shortest acts entry exit sound before after m split x y passing does equal = hand_means x y m (sound_after sound passing.to_it) equal does
