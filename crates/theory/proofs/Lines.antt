-- Each line of the unbounded machine keeps the invariant: one law for each of lines 1 to 10, and then the step.
use Prim.Native.Nat.{ℕ, suc, ◌+◌, ◌≤◌, ◌<◌}
use mathlib.Core.Path.{◌≡◌, refl, sym, ap, subst, ◌∙◌}
use mathlib.Core.Bool.{Bool, true, false, ◌||◌, ◌&&◌}
use native.Mathlib.Omega.{arith}
use borrow.Author.Tests.{eqb-true, eqb-false, leb-true, leb-false, ltb-true, not-true}
use lib.Dec.{eqb, leb, ltb}
use Rattle.laws.proofs.Tests.{by_order, by_equality, by_test, and_halves}
use Rattle.theory.proofs.Counting.{Process, below, below_one, below_zero, below_most, below_either}
use Rattle.theory.proofs.Counting.{sum_less, sum_but_one, at_most_largest, Reaches, largest_reached, Has, pigeonhole_but_one}
use Rattle.theory.proofs.Tokens.{Token, none, IsHeld, next_unbounded, before_unbounded, unbounded_machine}
use Rattle.theory.proofs.Model.{Place, at1, at2, at3, at4, at5, at6, at7, at8, at9, at10, Row, State, is_choosing, set, goes}
use Rattle.theory.proofs.Model.{after_cell, next_other, goes_on, passes, moves_at, moves, row_after, x_after, step}
use Rattle.theory.proofs.Invariant.{past_all, read_below, cleared_below, passed_below, due_below, Knows, KnowsOf, due_over, Idle, Reads}
use Rattle.theory.proofs.Invariant.{ReadsCell, Chooses, Holds, Waits, Inside, Own, OwnOf, NoGap, Invariant, own_at}
use Rattle.theory.proofs.Invariant.{held_at_least_x, passed_cleared, not_choosing_none_read}
use Rattle.theory.proofs.Turns.{set_each, set_same, reads_still, EachOther, NoMoreDue, Turn, no_gap_kept, turn_keeps, due_no_more}
use Rattle.theory.proofs.Turns.{others_sure}

-- m is the next number above j other than i: between them there is none but i.
record NextOther (i j m : ℕ) : Type 0 where
  above : j < m
  other : ¬ (m ≡ i)
  none_between : (k : ℕ) → ¬ (k ≡ i) → k < m → k ≤ j

next_other_lem : (i j : ℕ) → NextOther i j (next_other i j)
next_other_lem i j =
    by_test (NextOther i j) (eqb (suc j) i)
    (λ t.
    let e : suc j ≡ i = eqb-true (suc j) i t in
    record { above = omega arith; other = omega arith; none_between = λ k o l. omega arith })
    (λ t. record { above = omega arith; other = eqb-false (suc j) i t; none_between = λ k o l. omega arith })

-- The place where process i goes on after j: of the others only those up to j are cleared, passed or due there; it has read no cell; and a
-- process that may stand at line 8 may stand there.
record GoesOn (others i j : ℕ) (place : Place) : Type 0 where
  cleared : EachOther others i (λ k. k < cleared_below others place → k ≤ j)
  passed : EachOther others i (λ k. k < passed_below others place → k ≤ j)
  due : EachOther others i (λ k. k < due_below others place → k ≤ j)
  read : read_below others place ≡ 0
  own : (x due : ℕ) (t p : Token) (cell : ℕ → Token) → Holds x t cell → Own others i x due t p cell place

goes_on_lem : (others i j : ℕ) → GoesOn others i j (goes_on (suc others) i j)
goes_on_lem others i j =
    let m : ℕ = next_other i j in
    let next : NextOther i j m = next_other_lem i j in
    by_test (GoesOn others i j) (leb m (suc others))
    (λ t. record {
      cleared = λ k _ o l. next.none_between k o l;
      passed = λ k _ o l. next.none_between k o l;
      due = λ k _ o l. next.none_between k o l;
      read = refl;
      own = λ x due token p cell h. record {
        index = record { low = omega (arith, next.above); high = leb-true m (suc others) t };
        other = next.other;
        token = h;
      };
    })
    (λ t.
    let beyond : suc others < m = leb-false m (suc others) t in
    record {
      cleared = λ k p o _. next.none_between k o (omega (arith, p.high));
      passed = λ k p o _. next.none_between k o (omega (arith, p.high));
      due = λ k p o _. next.none_between k o (omega (arith, p.high));
      read = refl;
      own = λ x due token p cell h. h;
    })

-- The place after cell j is read: the cells up to j are read, and no process is cleared, passed or due.
record AfterCell (others j : ℕ) (place : Place) : Type 0 where
  read : read_below others place ≡ suc j
  cleared : cleared_below others place ≡ 0
  passed : passed_below others place ≡ 0
  due : due_below others place ≡ 0
  own : (i x due : ℕ) (t p : Token) (cell : ℕ → Token) → Process (suc others) j → Reads others x due t cell
      → Own others i x due t p cell place

after_cell_lem : (others j : ℕ) → AfterCell others j (after_cell (suc others) j)
after_cell_lem others j =
    by_test (AfterCell others j) (eqb j (suc others))
    (λ t.
    let e : j ≡ suc others = eqb-true j (suc others) t in
    record { read = omega arith; cleared = refl; passed = refl; due = refl; own = λ i x due token p cell _ r. r })
    (λ t.
    let o : ¬ (j ≡ suc others) = eqb-false j (suc others) t in
    record {
      read = refl;
      cleared = refl;
      passed = refl;
      due = refl;
      own = λ i x due token p cell q r. record { index = record { low = omega arith; high = omega (arith, q.high) }; reads = r };
    })

-- where one of two tests holds
either : (a b : Bool) → (a || b) ≡ true → {P : Type 0} → (a ≡ true → P) → (b ≡ true → P) → P
either true b e f g = f refl
either false b e f g = g e

-- who passes at line 7 goes before, if the other holds a token
passed_goes_before : (others i : ℕ) (t : Token) (j : ℕ) (u : Token) → passes (unbounded_machine others) i t j u ≡ true → IsHeld u
    → t < u + below i j
unfolding before_unbounded
passed_goes_before others i t j u e some =
    either (eqb u none) (before_unbounded i t j u) e
    (λ z. absurd (omega (arith, eqb-true u none z)))
    (λ b. either (ltb t u) (eqb t u && ltb i j) b
    (λ l. omega (arith, ltb-true t u l))
    (λ q.
    let (same, less) = and_halves (eqb t u) (ltb i j) q in
    omega (arith, eqb-true t u same, below_one i j (ltb-true i j less))))

-- Process i does line 8, and X becomes its token, x'. Another process j stays sure of what its line says, because X rises by at most one
-- and i is no longer due over j.
module _ (others x x' due due' i j : ℕ) (u p : Token) (cell : ℕ → Token) (begun : IsHeld x) (rises : x ≤ x') (by_one : x' ≤ suc x)
    (pi : Process (suc others) i) (pj : Process (suc others) j) (apart : ¬ (j ≡ i)) where
  all_i : i < past_all others
  all_i = omega (arith, pi.high)

  all_j : j < past_all others
  all_j = omega (arith, pj.high)

  -- a token that i goes before is still at least X
  held_entered : (IsHeld u → x' < u + below i j) → Holds x u cell → Holds x' u cell
  held_entered first h =
      record { at_least_x = omega (arith, first (omega (arith, h.at_least_x)), below_most i j); nothing_read = h.nothing_read }

  waits_entered : (k : ℕ) → (IsHeld u → x' < u + below i j) → Waits others j x k u cell → Waits others j x' k u cell
  waits_entered k first w = record { index = w.index; other = w.other; token = held_entered first w.token }

  -- nobody else is inside: each would go before the other
  not_inside : {P : Type 0} → (IsHeld u → x' < u + below i j) → u < x' + below j i → Inside x u cell → P
  not_inside first back o = absurd (omega (arith, o.is_x, first (omega (arith, o.is_x)), back, below_either j i apart))

  -- so at each place: i has cleared and passed every other, and j goes before i if it has passed i
  own_entered : (place : Place) → (1 ≤ read_below others place → due' < due)
      → Knows i (past_all others) (past_all others) x' j (read_below others place) u (cell i)
      → (i < passed_below others place → u < x' + below j i)
      → Own others j x due u p cell place → Own others j x' due' u p cell place
  own_entered at1 fewer known back o = o
  own_entered (at2 k) fewer known back o =
      record { index = o.index; reads = reads_still x x' due due' (omega (arith, fewer o.index.low)) o.reads }
  own_entered at3 fewer known back o =
      reads_still x x' due due' (omega (arith, fewer (omega arith))) o
  own_entered at4 fewer known back o =
      let seen : cell i ≡ x' = known.seen all_j all_i in
      record {
        no_token = o.no_token;
        has_pivot = o.has_pivot;
        pivot_behind_x = omega (arith, o.pivot_behind_x);
        x_not_beyond = omega (arith, at_most_largest cell (suc others) i pi);
        around_pivot = o.around_pivot;
      }
  own_entered at5 fewer known back o = held_entered (known.goes_before all_j) o
  own_entered (at6 k) fewer known back o = waits_entered k (known.goes_before all_j) o
  own_entered (at7 k) fewer known back o = waits_entered k (known.goes_before all_j) o
  own_entered at8 fewer known back o = held_entered (known.goes_before all_j) o
  own_entered at9 fewer known back o = not_inside (known.goes_before all_j) (back all_i) o
  own_entered at10 fewer known back o = not_inside (known.goes_before all_j) (back all_i) o

-- The turn of process i.
module _ (others : ℕ) (s : State) (inv : Invariant others s) (i : ℕ) (process : Process (suc others) i) where
  -- what the invariant says of it at a place that is known
  sure : (p : Place) → (s.row i).place ≡ p
      → Own others i s.x (due_over others s.row i) (s.row i).token (s.row i).pivot (s.row i).cell p
  sure = own_at others s inv i process

  -- and what it says that process i knows of the others there, and they of it
  knows_at : (p : Place) → (s.row i).place ≡ p → EachOther others i (λ j. KnowsOf others i (goes p (s.row i)) j (s.row j))
  knows_at p e j q o =
      subst (λ (p : Place). KnowsOf others i (goes p (s.row i)) j (s.row j)) e (inv.knows i j process q (λ z. o (sym z)))

  known_at : (p : Place) → (s.row i).place ≡ p → EachOther others i (λ j. KnowsOf others j (s.row j) i (goes p (s.row i)))
  known_at p e j q o = subst (λ (p : Place). KnowsOf others j (s.row j) i (goes p (s.row i))) e (inv.knows j i q process o)

  -- its turn at a place, as the machine has it
  abbrev TurnAt : Place → Type 0
  TurnAt p = Turn others s i (x_after s i p) (row_after others (unbounded_machine others) s i p)

  -- A turn that keeps X, the token and the cells.
  module _ (p : Place) (pivot : Token) where
    abbrev moved : Row
    moved = record { place = p; token = (s.row i).token; pivot = pivot; cell = (s.row i).cell }

    keeps_token : ((due : ℕ) → OwnOf others i s.x due moved)
        → NoMoreDue others s i p
        → EachOther others i (λ j. KnowsOf others i moved j (s.row j))
        → EachOther others i (λ j. KnowsOf others j (s.row j) i moved)
        → Turn others s i s.x moved
    keeps_token own no-more-due knows known =
        record {
          own = own (due_over others (set s.row i moved) i);
          others_own = others_sure others s i s.x moved inv no-more-due;
          knows = knows;
          known = known;
          rises = omega arith;
          keeps = λ a l e. e;
          no_gap_to_token = keep (s.row i).token (inv.no_gap_to_token i process);
          no_gap_to_cell = λ k. keep ((s.row i).cell k) (inv.no_gap_to_cell i k process);
        }
      where
        keep : (v : Token) → NoGap others s.x s.row v → NoGap others s.x (set s.row i moved) v
        keep = no_gap_kept others s i s.x moved (omega arith) (λ a l e. e)

  -- Line 1 begins to choose: no cell is read yet.
  line1 : (s.row i).place ≡ at1 → TurnAt at1
  line1 e =
      let o : Idle (s.row i).token (s.row i).cell = sure at1 e in
      keeps_token (at2 1) (s.row i).pivot
      (λ due. record {
        index = record { low = omega arith; high = omega arith };
        reads = record { no_token = o.no_token; not_far_behind = λ k l. absurd (omega (arith, o.nothing_read k)) };
      })
      (omega arith)
      (omega arith)
      (λ j q d. record { seen = λ c l. absurd (omega (arith, q.low, l)); goes_before = (known_at at1 e j q d).goes_before })

  -- Line 2 reads cell j. If the token there is held it is at least X, and i is not due over itself, so X will not leave it behind.
  line2 : (j : ℕ) → (s.row i).place ≡ at2 j → TurnAt (at2 j)
  line2 j e =
      record {
        own = after.own i s.x (due_over others rows i) (s.row i).token (s.row i).pivot r.cell o.index
            (record { no_token = o.reads.no_token; not_far_behind = not_far_behind });
        others_own = others_sure others s i s.x r inv (λ k _ _ _ l. absurd (omega (arith, after.due)));
        knows = λ k _ _. record {
          seen = λ l _. absurd (omega (arith, after.cleared));
          goes_before = λ l _. absurd (omega (arith, after.passed));
        };
        known = known;
        rises = omega arith;
        keeps = λ a l e. e;
        no_gap_to_token = keep (s.row i).token (inv.no_gap_to_token i process);
        no_gap_to_cell = set_each (λ k v. NoGap others s.x rows v) (s.row i).cell j (s.row j).token
            (keep (s.row j).token (inv.no_gap_to_token j o.index))
            (λ k _. keep ((s.row i).cell k) (inv.no_gap_to_cell i k process));
      }
    where
      r : Row
      r = row_after others (unbounded_machine others) s i (at2 j)

      rows : ℕ → Row
      rows = set s.row i r

      o : ReadsCell others s.x (due_over others s.row i) j (s.row i).token (s.row i).cell
      o = sure (at2 j) e

      after : AfterCell others j r.place
      after = after_cell_lem others j

      due_no_more_here : due_over others rows i ≤ due_over others s.row i
      due_no_more_here = due_no_more others s i s.x r i (λ l. absurd (omega (arith, after.due)))

      due_few : due_over others rows i < suc others
      due_few =
          sum_but_one (λ k. below i (due_below others (rows k).place)) (suc others) i process
          (below_zero i (due_below others (rows i).place)
          (omega (arith, after.due, ap (λ (a : Row). due_below others a.place) (set_same s.row i r))))
          (λ k. below_most i (due_below others (rows k).place))

      not_far_behind : (k : ℕ) → IsHeld (r.cell k) → s.x + due_over others rows i ≤ r.cell k + others
      not_far_behind =
          set_each (λ k v. IsHeld v → s.x + due_over others rows i ≤ v + others) (s.row i).cell j (s.row j).token
          (λ l. omega (
            arith,
            due_few,
            held_at_least_x others s inv j o.index l,
          ))
          (λ k _ l. omega (arith, due_no_more_here, o.reads.not_far_behind k l))

      known : EachOther others i (λ k. KnowsOf others k (s.row k) i r)
      known k q d =
          record {
            seen = λ c l.
                set_each
                (λ k v. i < cleared_below others (s.row k).place → k < suc j → Process (suc others) k → ¬ (k ≡ i) → v ≡ (s.row k).token)
                (s.row i).cell j (s.row j).token
                (λ _ _ _ _. refl)
                (λ k z c l q d. (known_at (at2 j) e k q d).seen c (omega arith))
                k c (omega (arith, after.read)) q d;
            goes_before = (known_at (at2 j) e k q d).goes_before;
          }

      keep : (v : Token) → NoGap others s.x s.row v → NoGap others s.x rows v
      keep = no_gap_kept others s i s.x r (omega arith) (λ a l e. e)

  -- Line 3 takes X for the pivot. The cells cluster around it: none is far above it by the pigeonhole, since i itself holds none of the
  -- tokens above X; and none is far below it by what line 2 left.
  line3 : (s.row i).place ≡ at3 → TurnAt at3
  line3 e =
      let o : Reads others s.x (due_over others s.row i) (s.row i).token (s.row i).cell = sure at3 e in
      keeps_token at4 s.x
      (λ _. record {
        no_token = o.no_token;
        has_pivot = inv.begun;
        pivot_behind_x = omega arith;
        x_not_beyond = omega arith;
        around_pivot = λ k l. record {
          high = omega (
            arith,
            pigeonhole_but_one (λ k. (s.row k).token) (suc others) s.x ((s.row i).cell k) (inv.no_gap_to_cell i k process) i process
                (omega (arith, o.no_token)),
          );
          low = omega (arith, o.not_far_behind k l);
        };
      })
      (omega arith)
      (omega arith)
      (known_at at3 e)

  -- Line 4 takes the next token: above the cells, so above the token of each that has passed i, and with no gap below it.
  line4 : (s.row i).place ≡ at4 → TurnAt at4
  unfolding next_unbounded
  line4 e =
      let o : Chooses others s.x (s.row i).token (s.row i).pivot (s.row i).cell = sure at4 e in
      let t : Token = next_unbounded others (s.row i).pivot (s.row i).cell in
      let r : Row = record { place = at5; token = t; pivot = none; cell = λ _. none } in
      record {
        own = record { at_least_x = omega (arith, o.x_not_beyond); nothing_read = λ _. refl };
        others_own = others_sure others s i s.x r inv (omega arith);
        knows = omega arith;
        known = λ j q d. record {
          seen = omega arith;
          goes_before = λ l _. omega (
            arith,
            (known_at at4 e j q d).seen (omega (arith, passed_cleared others (s.row j).place)) (omega (arith, q.high)),
            at_most_largest (s.row i).cell (suc others) j q,
          );
        };
        rises = omega arith;
        keeps = λ a l z. absurd (omega (arith, o.no_token));
        no_gap_to_token = λ a l m. by_equality a t
            (λ z. record { who = i; process = process; is = ap (λ (b : Row). b.token) (set_same s.row i r) ∙ sym z })
            (λ z.
            let w : Reaches (s.row i).cell (suc others) a =
            largest_reached (s.row i).cell (suc others) a (omega arith) (omega (arith, o.pivot_behind_x)) in
            no_gap_kept others s i s.x r (omega arith) (λ a l z. absurd (omega (arith, o.no_token))) ((s.row i).cell w.who)
            (inv.no_gap_to_cell i w.who process) a l w.reaches);
        no_gap_to_cell = λ k a l m. absurd (omega arith);
      }

  -- Line 5 ends the choosing: no process is cleared yet.
  line5 : (s.row i).place ≡ at5 → TurnAt at5
  line5 e =
      let g : GoesOn others i 0 (goes_on (suc others) i 0) = goes_on_lem others i 0 in
      keeps_token (goes_on (suc others) i 0) (s.row i).pivot
      (λ due. g.own s.x due (s.row i).token (s.row i).pivot (s.row i).cell (sure at5 e))
      (λ j q d _ l. absurd (omega (arith, q.low, g.due j q d l)))
      (λ j q d. record {
        seen = λ l _. absurd (omega (arith, q.low, g.cleared j q d l));
        goes_before = λ l _. absurd (omega (arith, q.low, g.passed j q d l));
      })
      (λ j q d. record { seen = λ _ l. absurd (omega (arith, g.read, q.low)); goes_before = (known_at at5 e j q d).goes_before })

  -- Line 6 sees that j is not choosing. So j has read no cell: there is nothing yet that it should have seen, and i may be due over it.
  line6 : (j : ℕ) → (s.row i).place ≡ at6 j → is_choosing (s.row j).place ≡ false → TurnAt (at6 j)
  line6 j e free =
      keeps_token (at7 j) (s.row i).pivot
      (λ _. sure (at6 j) e)
      (λ k q d l m. omega (arith, ap (due_below others) e, earlier_than_j k l m))
      (λ k q d. record {
        seen = λ l m. (knows_at (at6 j) e k q d).seen (earlier_than_j k (omega arith) l) m;
        goes_before = (knows_at (at6 j) e k q d).goes_before;
      })
      (known_at (at6 j) e)
    where
      earlier_than_j : (k : ℕ) → 1 ≤ read_below others (s.row k).place → k < suc j → k < j
      earlier_than_j k l m =
          by_equality k j
          (λ z. absurd (omega (
            arith,
            not_choosing_none_read others (s.row j).place free,
            ap (λ (w : ℕ). read_below others (s.row w).place) z,
          )))
          (λ z. omega arith)

  -- Line 7 finds that i goes before j.
  line7 : (j : ℕ) → (s.row i).place ≡ at7 j → (IsHeld (s.row j).token → (s.row i).token < (s.row j).token + below i j)
      → TurnAt (at7 j)
  line7 j e first =
      let o : Waits others i s.x j (s.row i).token (s.row i).cell = sure (at7 j) e in
      let g : GoesOn others i j (goes_on (suc others) i j) = goes_on_lem others i j in
      keeps_token (goes_on (suc others) i j) (s.row i).pivot
      (λ due. g.own s.x due (s.row i).token (s.row i).pivot (s.row i).cell o.token)
      (λ k q d _ l. omega (arith, ap (due_below others) e, g.due k q d l))
      (λ k q d. record {
        seen = λ l m. (knows_at (at7 j) e k q d).seen (omega (arith, g.cleared k q d l)) m;
        goes_before = λ l m. by_equality k j
            (λ z. subst (λ (w : ℕ). IsHeld (s.row w).token → (s.row i).token < (s.row w).token + below i w) (sym z) first m)
            (λ z. (knows_at (at7 j) e k q d).goes_before (omega (arith, g.passed k q d l)) m);
      })
      (λ k q d. record { seen = λ _ l. absurd (omega (arith, g.read)); goes_before = (known_at (at7 j) e k q d).goes_before })

  -- Line 8 writes X. No other token is below i's and there is no gap, so X rises by at most one; and i is no longer due.
  line8 : (s.row i).place ≡ at8 → TurnAt at8
  line8 e =
      record {
        own = record { is_x = refl; nothing_read = o.nothing_read };
        others_own = λ j q d.
            own_entered others s.x (s.row i).token (due_over others s.row j) (due_over others rows j) i j (s.row j).token
            (s.row j).pivot (s.row j).cell inv.begun o.at_least_x by_one process q d (s.row j).place
            (λ _. fewer_due j q) (knows_at at8 e j q d)
            (λ l. (known_at at8 e j q d).goes_before l (omega (arith, inv.begun, o.at_least_x))) (inv.own j q);
        knows = knows_at at8 e;
        known = known_at at8 e;
        rises = o.at_least_x;
        keeps = λ a l e. e;
        no_gap_to_token = keep (s.row i).token (inv.no_gap_to_token i process);
        no_gap_to_cell = λ k. keep ((s.row i).cell k) (inv.no_gap_to_cell i k process);
      }
    where
      o : Holds s.x (s.row i).token (s.row i).cell
      o = sure at8 e

      rows : ℕ → Row
      rows = set s.row i (goes at9 (s.row i))

      by_one : (s.row i).token ≤ suc s.x
      by_one =
          by_order (s.row i).token (suc s.x) (λ l. l)
          (λ l.
          let h : Has (λ k. (s.row k).token) (suc others) (suc s.x) =
          inv.no_gap_to_token i process (suc s.x) (omega arith) (omega arith) in
          by_equality h.who i
          (λ z. omega (arith, h.is, ap (λ (k : ℕ). (s.row k).token) z))
          (λ z. omega (
            arith,
            h.is,
            below_most i h.who,
            (knows_at at8 e h.who h.process z).goes_before (omega (arith, h.process.high)) (omega (arith, h.is)),
          )))

      fewer_due : (j : ℕ) → Process (suc others) j → due_over others rows j < due_over others s.row j
      fewer_due j q =
          sum_less (λ k. below j (due_below others (rows k).place)) (λ k. below j (due_below others (s.row k).place)) (suc others)
          i process
          (omega (
            arith,
            below_zero j (due_below others (rows i).place)
                (omega (arith, ap (λ (r : Row). due_below others r.place) (set_same s.row i (goes at9 (s.row i))))),
            below_one j (due_below others (s.row i).place) (omega (arith, ap (due_below others) e, q.high)),
          ))
          (λ k _. set_each (λ k b. below j (due_below others b.place) ≤ below j (due_below others (s.row k).place)) s.row i
          (goes at9 (s.row i)) (omega (arith, below_zero j 0 (omega arith))) (λ k _. omega arith) k)

      keep : (v : Token) → NoGap others s.x s.row v → NoGap others (s.row i).token rows v
      keep = no_gap_kept others s i (s.row i).token (goes at9 (s.row i)) o.at_least_x (λ a l e. e)

  -- Line 9 changes nothing but the line.
  line9 : (s.row i).place ≡ at9 → TurnAt at9
  line9 e = keeps_token at10 (s.row i).pivot (λ _. sure at9 e) (omega arith) (knows_at at9 e) (known_at at9 e)

  -- Line 10 gives up X itself, so no token above X.
  line10 : (s.row i).place ≡ at10 → TurnAt at10
  line10 e =
      let o : Inside s.x (s.row i).token (s.row i).cell = sure at10 e in
      let r : Row = row_after others (unbounded_machine others) s i at10 in
      record {
        own = record { no_token = refl; nothing_read = o.nothing_read };
        others_own = others_sure others s i s.x r inv (omega arith);
        knows = omega arith;
        known = omega arith;
        rises = omega arith;
        keeps = λ a l z. absurd (omega (arith, o.is_x));
        no_gap_to_token = λ a l m. absurd (omega arith);
        no_gap_to_cell = λ k a l m. absurd (omega (arith, o.nothing_read k));
      }

  -- the turn of each line, where it moves
  line_turn : (p : Place) → (s.row i).place ≡ p → moves_at (unbounded_machine others) s i p ≡ true → TurnAt p
  line_turn at1 e _ = line1 e
  line_turn (at2 j) e _ = line2 j e
  line_turn at3 e _ = line3 e
  line_turn at4 e _ = line4 e
  line_turn at5 e _ = line5 e
  line_turn (at6 j) e free = line6 j e (not-true (is_choosing (s.row j).place) free)
  line_turn (at7 j) e pass = line7 j e (passed_goes_before others i (s.row i).token j (s.row j).token pass)
  line_turn at8 e _ = line8 e
  line_turn at9 e _ = line9 e
  line_turn at10 e _ = line10 e

  -- every step of the unbounded machine keeps the invariant
  pub step_keeps : Invariant others (step others (unbounded_machine others) s i)
  step_keeps =
      by_test (Invariant others) (moves (unbounded_machine others) s i)
      (λ moves. turn_keeps others s i _ _ inv (line_turn (s.row i).place refl moves))
      (λ _. inv)
