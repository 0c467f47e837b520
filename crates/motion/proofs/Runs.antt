-- Runs of calls: one more at the end, a split, one end only.
use Rattle.std.proofs.Common.{◌≡◌, ℕ, ◌+◌, ◌<◌, ◌≤◌, ◌⊎◌, List, [], ◌∷◌, ◌++◌, length, get_or, take, sym, refl, ◌∙◌, inl, inr, ⊎_elim, take_all, rules, arith}
use Rattle.std.proofs.lemmas.List.{take_more}
use Rattle.std.proofs.lemmas.Bool.{cases_eq}
use Rattle.motion.specs.declared.moves.Move.{Move}
use Rattle.motion.specs.declared.calls.Act.{Act}
use Rattle.motion.specs.declared.calls.Act.TheVariants.{Call as Called, Step}
use Rattle.motion.specs.declared.calls.Call.{Call}
use Rattle.motion.specs.declared.calls.Call.TheVariants.{Put, Take, Mark, Unmark, Hand, Turn}
use Rattle.motion.specs.Tree.{total}
use Rattle.motion.specs.Moves.{Legal, one_less, one_more}
use Rattle.motion.specs.Visit.{Unsettled}
use Rattle.motion.specs.Stepping.{Even}
use Rattle.motion.specs.State.{State, page_begun, with_wagons, with_berths, most_moves, EqualNumbers}
use Rattle.motion.specs.Calls.{Does, Done, SettledIn, Makes, After, Passing, Sound, hand_moved, stepped}
use Rattle.motion.proofs.Asking.{unsettled_or_not}
use Rattle.motion.proofs.Decided.{both, below_or_not, legal_or_not}
use Rattle.motion.proofs.DueMoves.{some_due, none_due, due_is_legal}
use Rattle.motion.proofs.Least.{least}
use Rattle.motion.proofs.OneDue.{one_due}

-- one call more at the end
pub after_push : {cs : List Act} {c : Act} {x y z : State} → After cs x y → Makes c y z → After (cs ++ (c ∷ [])) x z
after_push After.start m = After.then m After.start
after_push (After.then n r) m = After.then n (after_push r m)

-- a loop over the calls: one turn, and the end
pub after_more :
    (calls : List Act) (i : ℕ) (d : Act) {x y z : State}
    → i < length calls
    → After (take i calls) x y
    → Makes (get_or calls i d) y z
    → After (take (i + 1) calls) x z
after_more calls i d l r m = rw (take_more calls i d l) (after_push r m)

pub after_all : (calls : List Act) (i : ℕ) {x y : State} → length calls ≤ i → After (take i calls) x y → After calls x y
after_all calls i l r = rw (take_all i calls l) at r

-- a run of calls passes through each of them
pub every_split :
    (before : List Act) (c : Act) (after : List Act) (entry exit : State)
    → After (before ++ (c ∷ after)) entry exit
    → (x : State) × (y : State) × Passing before c after entry x y exit
every_split [] c after entry exit (After.then m r) = search (rules, After.start)
every_split (b ∷ before) c after entry exit (After.then m r) =
    let p = every_split before c after _ exit r in
    (p.0, p.1, search (rules, After.then))

-- what every siding keeps
pub sound_moved : (x : State) (m : Move) → Sound x → Legal x.sections x.inner x.wagons m → Sound (stepped x m)
sound_moved x m sound legal = search rules

pub even_from : (x : State) → Sound x → EqualNumbers x → Even x.sections x.inner x.wagons x.berths
even_from x sound equal = search rules

sound_does : (c : Call) (x y : State) → Sound x → Does c x y → Sound y
sound_does (Put s) x y sound d = search rules
sound_does (Take s) x y sound d = search rules
sound_does (Mark s) x y sound d = search rules
sound_does (Unmark s) x y sound d = search rules
sound_does (Hand m) x y sound d = search rules
sound_does Turn x y sound d = grind arith

sound_step : (x y : State) → Sound x → Done Step x y → Sound y
sound_step x y sound (equal, inl (m, due, room, e)) = search (rules, (due_is_legal x.sections x.inner x.wagons x.berths m (even_from x sound equal) due).0)
sound_step x y sound (equal, inr (settled, e)) = search rules

pub sound_makes : (a : Act) (x y : State) → Sound x → Makes a x y → Sound y
sound_makes (Called c) x y sound (Makes.done d) = sound_does c x y sound d
sound_makes Step x y sound (Makes.done d) = sound_step x y sound d
sound_makes a x y sound (Makes.refused none e) = search rules

pub sound_after : {acts : List Act} {x y : State} → Sound x → After acts x y → Sound y
sound_after sound After.start = sound
sound_after sound (After.then m r) = sound_after (sound_makes _ _ _ sound m) r

-- an act leads to one end only
does_single : (c : Call) (x y z : State) → Does c x y → Does c x z → y ≡ z
does_single (Put s) x y z p q = cc
does_single (Take s) x y z p q = p.2 ∙ sym q.2
does_single (Mark s) x y z p q = p.2 ∙ sym q.2
does_single (Unmark s) x y z p q = p.2 ∙ sym q.2
does_single (Hand m) x y z p q = p.2 ∙ sym q.2
does_single Turn x y z p q = cc

step_single : (x y z : State) → Sound x → Done Step x y → Done Step x z → y ≡ z
step_single x y z sound (_, inl (m, due, room, e)) (_, inl (k, other, space, f)) = grind (arith, one_due x.sections x.inner x.wagons x.berths m k sound.tree)
step_single x y z sound (_, inl (m, due, room, e)) (_, inr (settled, f)) = absurd (none_due settled due)
step_single x y z sound (_, inr (settled, e)) (_, inl (m, due, room, f)) = absurd (none_due settled due)
step_single x y z sound (_, inr (settled, e)) (_, inr (also, f)) = e ∙ sym f

done_single : (a : Act) (x y z : State) → Sound x → Done a x y → Done a x z → y ≡ z
done_single (Called c) x y z sound p q = does_single c x y z p q
done_single Step x y z sound p q = step_single x y z sound p q

makes_single : (a : Act) (x y z : State) → Sound x → Makes a x y → Makes a x z → y ≡ z
makes_single a x y z sound (Makes.done p) (Makes.done q) = done_single a x y z sound p q
makes_single a x y z sound (Makes.done p) (Makes.refused q f) = search rules
makes_single a x y z sound (Makes.refused p e) (Makes.done q) = search rules
makes_single a x y z sound (Makes.refused p e) (Makes.refused q f) = e ∙ sym f

pub one_end : (acts : List Act) (x y z : State) → Sound x → After acts x y → After acts x z → y ≡ z
one_end [] x y z sound After.start After.start = refl
one_end (a ∷ acts) x y z sound (After.then m r) (After.then k q) = grind (arith, one_end acts _ y z (sound_makes a x _ sound m) r, makes_single)

-- and to some end
-- an act that is done to y if two things hold
made_if :
    (a : Act) (x y : State) {P Q : Type 0}
    → P ⊎ (P → ⊥)
    → Q ⊎ (Q → ⊥)
    → (P → Q → Done a x y)
    → ((z : State) → Done a x z → P × Q)
    → (z : State) × Makes a x z
made_if a x y p q does only =
    ⊎_elim
    (λ h. (y, Makes.done (does h.0 h.1)))
    (λ h. (x, Makes.refused (λ z d. h (only z d)) refl))
    (both p q)

-- some section is unsettled, or none
pub settled_or_not : (x : State) → ((u : ℕ) × (u < x.sections) × Unsettled x.sections x.inner x.wagons x.berths u) ⊎ SettledIn x
settled_or_not x = grind (arith, least (Unsettled x.sections x.inner x.wagons x.berths) (unsettled_or_not x.sections x.inner x.wagons x.berths) x.sections)

step_some : (x : State) → Sound x → (y : State) × Makes Step x y
step_some x sound =
    ⊎_elim
    (λ (equal : EqualNumbers x).
    ⊎_elim
    (λ (un : (u : ℕ) × (u < x.sections) × Unsettled x.sections x.inner x.wagons x.berths u).
    let due = some_due x.sections x.inner x.wagons x.berths (even_from x sound equal) un.0 un.1 un.2 in
    ⊎_elim
    (λ (room : x.moves < most_moves). (stepped x due.0, Makes.done (equal, inl (due.0, due.1, room, refl))))
    (λ (full : x.moves < most_moves → ⊥).
    (x, Makes.refused (λ z d. no_step z full un.0 un.1 un.2 d) refl))
    (below_or_not x.moves most_moves))
    (λ (settled : SettledIn x). (x, Makes.done (equal, inr (settled, refl))))
    (settled_or_not x))
    (λ (differ : EqualNumbers x → ⊥). (x, Makes.refused (λ z d. differ d.0) refl))
    (cases_eq (total x.sections x.wagons) (total x.sections x.berths))
  where
    no_step : (z : State) → (x.moves < most_moves → ⊥) → (u : ℕ) → u < x.sections → Unsettled x.sections x.inner x.wagons x.berths u → Done Step x z → ⊥
    no_step z full u l un (_, inl (m, due, room, e)) = full room
    no_step z full u l un (_, inr (settled, e)) = settled u l un

makes_some : (a : Act) (x : State) → Sound x → (y : State) × Makes a x y
makes_some (Called (Put s)) x sound =
    made_if (Called (Put s)) x (page_begun (with_wagons x (one_more x.wagons s))) (below_or_not s x.sections) (cases_eq (get_or x.wagons s 0) 0)
    (λ p q. (p, q, refl)) (λ z d. (d.0, d.1))
makes_some (Called (Take s)) x sound =
    made_if (Called (Take s)) x (page_begun (with_wagons x (one_less x.wagons s))) (below_or_not s x.sections) (below_or_not 0 (get_or x.wagons s 0))
    (λ p q. (p, q, refl)) (λ z d. (d.0, d.1))
makes_some (Called (Mark s)) x sound =
    made_if (Called (Mark s)) x (page_begun (with_berths x (one_more x.berths s))) (below_or_not s x.sections) (cases_eq (get_or x.berths s 0) 0)
    (λ p q. (p, q, refl)) (λ z d. (d.0, d.1))
makes_some (Called (Unmark s)) x sound =
    made_if (Called (Unmark s)) x (page_begun (with_berths x (one_less x.berths s))) (below_or_not s x.sections) (below_or_not 0 (get_or x.berths s 0))
    (λ p q. (p, q, refl)) (λ z d. (d.0, d.1))
makes_some (Called (Hand m)) x sound =
    made_if (Called (Hand m)) x (hand_moved x m) (legal_or_not x.sections x.inner x.wagons m) (below_or_not x.moves most_moves)
    (λ p q. (p, q, refl)) (λ z d. (d.0, d.1))
makes_some (Called Turn) x sound = (page_begun x, Makes.done refl)
makes_some Step x sound = step_some x sound

pub some_end : (acts : List Act) (x : State) → Sound x → (y : State) × After acts x y
some_end [] x sound = (x, After.start)
some_end (a ∷ acts) x sound =
    let m = makes_some a x sound in
    let r = some_end acts m.0 (sound_makes a x m.0 sound m.1) in
    (r.0, After.then m.1 r.1)
