-- Where a list of moves leads, and where it stops.
use Rattle.std.proofs.Common.{◌≡◌, ℕ, ◌+◌, ◌<◌, ◌≤◌, List, [], ◌∷◌, ◌++◌, length, get_or, take, refl, take_all, arith}
use Rattle.std.proofs.lemmas.List.{take_more}
use Rattle.motion.specs.declared.moves.Move.{Move}
use Rattle.motion.specs.Moves.{moved, Legal, Leads}

module _ {n : ℕ} {inner : List ℕ} where
  -- one move more at the end
  pub leads_push : {wagons end : List ℕ} {ms : List Move} {m : Move} → Leads n inner wagons ms end → Legal n inner end m → Leads n inner wagons (ms ++ (m ∷ [])) (moved end m)
  leads_push Leads.stays legal = Leads.goes legal Leads.stays
  leads_push (Leads.goes first rest) legal = Leads.goes first (leads_push rest legal)

  -- a loop over the moves: one turn, and the end
  pub leads_more : (ms : List Move) (i : ℕ) (d : Move) {wagons end : List ℕ} → i < length ms → Leads n inner wagons (take i ms) end → Legal n inner end (get_or ms i d) → Leads n inner wagons (take (i + 1) ms) (moved end (get_or ms i d))
  leads_more ms i d l leads legal = rw (take_more ms i d l) (leads_push leads legal)

  pub leads_all : (ms : List Move) (i : ℕ) {wagons end : List ℕ} → length ms ≤ i → Leads n inner wagons (take i ms) end → Leads n inner wagons ms end
  leads_all ms i l leads = rw (take_all i ms l) at leads

  -- a list leads to one end only
  pub leads_once : (ms : List Move) {wagons end other : List ℕ} → Leads n inner wagons ms end → Leads n inner wagons ms other → end ≡ other
  leads_once [] Leads.stays Leads.stays = refl
  leads_once (m ∷ ms) (Leads.goes _ rest) (Leads.goes _ too) = leads_once ms rest too

  -- each of its moves is legal where those before it lead
  pub leads_through : (before after : List Move) (m : Move) {wagons reached end : List ℕ} → Leads n inner wagons (before ++ (m ∷ after)) end → Leads n inner wagons before reached → Legal n inner reached m
  leads_through [] after m (Leads.goes legal _) Leads.stays = legal
  leads_through (b ∷ before) after m (Leads.goes _ rest) (Leads.goes _ to) = leads_through before after m rest to

  -- so it comes to one move only that is not legal there
  pub stops_once :
      (before before' after after' : List Move) (m m' : Move) {wagons reached other : List ℕ}
      → before ++ (m ∷ after) ≡ before' ++ (m' ∷ after')
      → Leads n inner wagons before reached
      → Leads n inner wagons before' other
      → (Legal n inner reached m → ⊥)
      → (Legal n inner other m' → ⊥)
      → (before ≡ before') × (m ≡ m')
  stops_once [] [] after after' m m' e Leads.stays Leads.stays stuck stuck' = (refl, cc)
  stops_once [] (b ∷ before') after after' m m' e Leads.stays (Leads.goes legal _) stuck stuck' = grind arith
  stops_once (b ∷ before) [] after after' m m' e (Leads.goes legal _) Leads.stays stuck stuck' = grind arith
  stops_once (b ∷ before) (b' ∷ before') after after' m m' {wagons} {other = other} e (Leads.goes _ rest) (Leads.goes _ rest') stuck stuck' = grind (arith, stops_once before before' after after' m m')
