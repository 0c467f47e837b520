-- At most one move is due.
use Rattle.std.proofs.Common.{◌≡◌, ℕ, List, sym, refl, arith, rules}
use Rattle.motion.specs.declared.moves.Move.{Move}
use Rattle.motion.specs.Tree.{Tree}
use Rattle.motion.specs.Visit.{FirstUnsettled}
use Rattle.motion.specs.declared.ways.Way.{Way}
use Rattle.motion.specs.declared.ways.Way.TheVariants.{Outward, Inward}
use Rattle.motion.specs.Due.{Ready, LowestAsking, FirstMove, Due}
use Rattle.motion.proofs.Order.{Which, which}

one_first : (n : ℕ) (inner wagons berths : List ℕ) (u v : ℕ) → Tree n inner → FirstUnsettled n inner wagons berths u → FirstUnsettled n inner wagons berths v → u ≡ v
one_first n inner wagons berths u v tree a b =
    elim (which n inner tree u v a.within b.within) [
      | Which.same e ↦ e
      | Which.sooner s ↦ absurd (b.none_before u a.within s a.unsettled)
      | Which.later s ↦ absurd (a.none_before v b.within s b.unsettled)
    ]

one_lowest : {way : Way} {n : ℕ} {inner wagons berths : List ℕ} {u v w : ℕ} → LowestAsking way n inner wagons berths u v → LowestAsking way n inner wagons berths u w → v ≡ w
one_lowest {v = v} {w = w} a b = grind arith

one_way : (a b : Way) (wagons : List ℕ) (v : ℕ) → Ready a wagons v → Ready b wagons v → a ≡ b
one_way Outward Outward wagons v r s = refl
one_way Outward Inward wagons v r s = grind arith
one_way Inward Outward wagons v r s = grind arith
one_way Inward Inward wagons v r s = refl

one_first_move : {way : Way} {n : ℕ} {inner wagons berths : List ℕ} {u : ℕ} {a b : Move} → FirstMove way n inner wagons berths u a → FirstMove way n inner wagons berths u b → a ≡ b
one_first_move {way} {u = u} (FirstMove.straight l o) (FirstMove.straight k p) = search rules
one_first_move {way} {wagons = wagons} (FirstMove.straight l o) (FirstMove.onward k r f) = search rules
one_first_move {way} {wagons = wagons} (FirstMove.onward l r f) (FirstMove.straight k o) = search rules
one_first_move (FirstMove.onward l r f) (FirstMove.onward k s g) =
    let e = one_lowest l k in
    one_first_move f (rw (sym e) at g)

pub one_due : (n : ℕ) (inner wagons berths : List ℕ) (a b : Move) → Tree n inner → Due n inner wagons berths a → Due n inner wagons berths b → a ≡ b
one_due n inner wagons berths a b tree x y =
    let e = one_first n inner wagons berths y.section x.section tree y.first x.first in
    let way = one_way y.way x.way wagons x.section (rw e at y.ready) x.ready in
    one_first_move x.move (rw (e, way) at y.move)
