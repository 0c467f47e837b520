-- The charges of the sections, joined one after another, come to the charge of the moves due.
use Rattle.std.proofs.Common.{◌≡◌, ℕ, suc, ◌+◌, ◌-◌, ℤ, ◌<◌, ◌≤◌, List, Ok, Err, count_by, Result, sym, refl, ap, ◌∙◌, arith}
use Rattle.std.proofs.lemmas.Bool.{lt-ltb}
use Rattle.refusal.specs.declared.Refusal.{Refusal}
use Rattle.motion.specs.State.{State, EqualNumbers}
use Rattle.motion.specs.Stepping.{Even}
use Rattle.motion.specs.Demand.{demand_of}
use Rattle.motion.specs.declared.ways.Way.{Way}
use Rattle.motion.specs.declared.ways.Way.TheVariants.{Outward, Inward}
use Rattle.motion.proofs.StepsEnd.{stepping_ends}
use Rattle.tariff.specs.Rule.{Rule, Laws}
use Rattle.tariff.specs.Charges.{by_sections}
use Rattle.tariff.proofs.Asked.{asked_of, sections_come_to_moves}
use Rattle.siding.specs.declared.siding.Siding.{Siding}
use Rattle.siding.specs.Stands.{state_of, reading}
use Rattle.motion.specs.declared.moves.Move.{Move}
use Rattle.motion.specs.Moves.{crosses_inward, crosses_outward}
use Rattle.motion.proofs.Sparing.{due_is_sparing, due_fill}
use Rattle.tariff.proofs.Keys.{Fewer, leads_keyed}
use Rattle.tariff.proofs.Leasts.{least}
use Rattle.quoting.specs.Quote.{Quoted, share}
use Rattle.quoting.specs.Promise.{QuoteIsLeast, Answered}
use Rattle.planning.specs.Promise.{accounted}
use Rattle.planning.specs.declared.account.Account.{Account}
use Rattle.planning.proofs.Kept.{sound}

-- what is read of a section that there is
pub read_is : {V : Type 0} (x : Siding) (s : ℕ) (v d : V) → s < x.track.sections → Ok d ≡ reading x s v → d ≡ v
read_is x s v d l e = cc (lt-ltb s x.track.sections l)

module _ {S : Type 0} (rule : Rule S) (x : Siding) where
  abbrev asked : Way → ℕ → ℕ
  asked = asked_of x.track.sections x.track.inner x.wagons.in_section x.berths.in_section

  -- what the sections up to k come to
  abbrev pub so_far : ℕ → S
  so_far k = by_sections rule asked k

  pub quote_begins : (sum : S) → sum ≡ rule.none → sum ≡ so_far 0
  unfolding by_sections
  quote_begins sum e = e

  so_far_suc : (k : ℕ) → so_far (suc k) ≡ rule.plus (so_far k) (share rule (suc k) (demand_of x.track.sections x.track.inner x.wagons.in_section x.berths.in_section (suc k)))
  unfolding by_sections
  so_far_suc k = refl

  pub quote_goes_on : (sum part next : S) (s : ℕ) (demand : ℤ) → 1 ≤ s → demand ≡ demand_of x.track.sections x.track.inner x.wagons.in_section x.berths.in_section s
      → sum ≡ so_far (s - 1) → part ≡ share rule s demand → next ≡ rule.plus sum part → next ≡ so_far (s + 1 - 1)
  quote_goes_on sum part next s demand some is es ep en =
      let here : suc (s - 1) ≡ s = omega arith in
      let now : s + 1 - 1 ≡ suc (s - 1) = omega arith in
      cc (so_far_suc (s - 1), ap (λ t. share rule t (demand_of x.track.sections x.track.inner x.wagons.in_section x.berths.in_section t)) here, ap so_far now)

  even : EqualNumbers (state_of x) → Even x.track.sections x.track.inner x.wagons.in_section x.berths.in_section
  even equal =
      let so = sound x in
      record {
        some = so.some;
        tree = so.tree;
        long = so.long_wagons;
        one_wagon = so.one_wagon;
        one_berth = so.one_berth;
        equal = equal;
      }

  pub quote_ends : Laws rule → EqualNumbers (state_of x) → (sum : S) (s : ℕ) → s ≡ x.track.sections → sum ≡ so_far (s - 1) → Quoted rule (state_of x) (Ok sum)
  quote_ends laws equal sum s es e =
      let ends = stepping_ends x.track.sections x.track.inner x.wagons.in_section x.berths.in_section (even equal) in (
        equal,
        (
          ends.0,
          (
            (ends.1, ends.2),
            e ∙ ap (λ k. so_far (k - 1)) es ∙ sym (sections_come_to_moves x.track.sections x.track.inner x.wagons.in_section x.berths.in_section (even equal) ends.0 ends.1 ends.2 rule laws),
          ),
        ),
      )

  pub quote_least : Laws rule → (r : Result S Refusal) → Quoted rule (state_of x) r → QuoteIsLeast rule (state_of x) r
  quote_least laws (Err e) q = q
  quote_least laws (Ok sum) q =
      let due = q.1.1.0 in
      let fills = due_fill x.track.sections x.track.inner x.wagons.in_section x.berths.in_section (even q.0) q.1.0 due.0 due.1 in
      let keyed = leads_keyed x.track.sections x.track.inner (sound x).tree fills.leads in (
        q.0,
        record {
          moves_due = q.1.0;
          due = due;
          fills = fills;
          charge = q.1.1.1;
          not_more = λ ms other.
              let fewer = due_is_sparing x.track.sections x.track.inner x.wagons.in_section x.berths.in_section (even q.0) q.1.0 due.0 due.1 ms other in
              rw q.1.1.1 (least rule laws q.1.0 ms keyed (each q.1.0 ms fewer));
        },
      )
    where
      each : (ms ns : List Move) → ((s : ℕ) → (count_by (crosses_inward s) ms ≤ count_by (crosses_inward s) ns) × (count_by (crosses_outward s) ms ≤ count_by (crosses_outward s) ns)) → Fewer ms ns
      each ms ns f Inward s = (f s).0
      each ms ns f Outward s = (f s).1

  -- with the page that was answered and a quote of where the siding ends, all is told
  pub all_told : (drawn : Result State Refusal) (page : Account) (quote : Result S Refusal) → Ok page ≡ accounted drawn (state_of x)
      → QuoteIsLeast rule (state_of x) quote → Answered rule drawn (state_of x) (Ok (record { page = page; quote = quote }))
  all_told (Ok start) page quote e least = record { figure_is = cc; head_is = cc; moves_are = cc; away_is = cc; quote_is_least = least }
  all_told (Err refusal) page quote e least = cc
