-- The bounded machine for ever, proved: its table shows the remainders of a state that has the invariant, after every schedule.
use Prim.Native.Nat.{ℕ, suc, ◌*◌, ◌-◌, ◌≤◌}
use mathlib.Core.Path.{◌≡◌, refl, sym, ap, ◌∙◌}
use mathlib.Core.Bool.{true, false, true≢false}
use native.Mathlib.Omega.{arith}
use borrow.Author.Tests.{leb-true, eq-eqb}
use lib.IntN.{ℤ, pos, negsuc, nat_abs}
use Rattle.laws.specs.Tests.{withinℤ}
use Rattle.laws.proofs.Tests.{and_halves}
use Rattle.fields.specs.Numbers.{bounded, none, is_none, limit_of}
use Rattle.table.specs.WellFormed.{row_of}
use Rattle.table.specs.Fresh.{fresh_table}
use Rattle.table.specs.declared.Table.{Table}
use Rattle.table.proofs.WellFormed.{table_rules, token_range}
use Rattle.machine.specs.Run.{course_of}
use Rattle.theory.proofs.Counting.{Process}
use Rattle.theory.proofs.Tokens.{held, modulus, ahead}
use Rattle.theory.proofs.Model.{State, fresh}
use Rattle.theory.proofs.Mirrors.{one_arc}
use Rattle.theory.proofs.Mirrors as theory
use Rattle.demands.specs.ForEver.{Holds, ahead_of, HeldTogether, BoundedForEver}
use Rattle.demands.proofs.Views.{token_of, view}
use Rattle.demands.proofs.From1.{row_from1}
use Rattle.demands.proofs.Tables.{some_process, in_table}
use Rattle.demands.proofs.TokenViews.{ahead_view}
use Rattle.demands.proofs.Mirrors.{Mirrors, fresh_mirrors, mirror_accepts, mirror_at_most_one, mirror_course}

-- a number that is 0 to a limit
record Number (limit : ℕ) (v : ℤ) : Type 0 where
  number : ℕ
  is : v ≡ pos number
  most : number ≤ limit

-- a token that is not -1
held_number : (limit : ℕ) (v : ℤ) → withinℤ none (pos limit) v ≡ true → is_none v ≡ false → Number limit v
held_number limit (pos a) range some = record { number = a; is = refl; most = leb-true a limit range }
held_number limit (negsuc a) range some =
    let only : a ≡ 0 = omega (arith, leb-true a 0 (and_halves _ true range).0) in
    absurd (true≢false (sym (eq-eqb a 0 only) ∙ some))

-- and what its view shows is not none
shown_held : (v : ℤ) (number : ℕ) → token_of v ≡ held number → (v ≡ pos number) × (is_none v ≡ false)
shown_held (pos a) number e = (ap pos (omega (arith, e)), refl)
shown_held (negsuc a) number e = absurd (omega (arith, e))

module _ (n : ℕ) (b : Table) (s : State) (m : Mirrors n b s) where
  -- the token of a process that holds one is a number below 2n - 1, and the view shows it
  token_number : (i : ℕ) → Holds n b i → Number (2 * n - 2) (row_of b i).core.token
  unfolding limit_of
  token_number i h =
      let rules = (table_rules b m.table.formed).rows i h.low (in_table m.table h.high) in
      let range = token_range (limit_of b.algorithm b.n) (row_of b i).core.line (row_of b i).core.token rules.core.token in
      held_number (2 * n - 2) (row_of b i).core.token (rw (m.table.machine, m.table.count) at range) h.token

  token_shown : (i : ℕ) → 1 ≤ i → i ≤ n → ((view b).row i).token ≡ token_of (row_of b i).core.token
  token_shown i low high = ap (λ r. token_of r.core.token) (sym (row_from1 b m.table.sized i low (in_table m.table high)))

  process : {i : ℕ} → Holds n b i → Process (suc (n - 1)) i
  process h = record { low = h.low; high = omega (arith, h.high) }

  -- how far one is ahead of another is what the theory says of their numbers
  ahead_is : (i j : ℕ) (hi : Holds n b i) (hj : Holds n b j)
      → ahead_of n b i j ≡ ahead (modulus (n - 1)) (token_number i hi).number (token_number j hj).number
  ahead_is i j hi hj =
      let v = token_number i hi in
      let w = token_number j hj in
      rw (v.is, w.is) (ahead_view n (some_process m.table) v.number w.number (omega (arith, v.most)))

  -- what the view shows of the process i
  shown : (i : ℕ) (h : Holds n b i) → ((view b).row i).token ≡ held (token_number i h).number
  shown i h = token_shown i h.low h.high ∙ ap token_of (token_number i h).is

  held_together : HeldTogether (n - 1) n b
  held_together i h =
      record {
        from = in_view.from;
        holds = first;
        all = λ j hj. rw (ahead_is in_view.from j first hj, first_number) (omega (arith, in_view.all j _ (process hj) (shown j hj)));
      }
    where
      in_view : theory.OneArc (n - 1) (view b)
      in_view = one_arc (n - 1) (view b) s m.state i _ (process h) (shown i h)

      low : 1 ≤ in_view.from
      low = in_view.process.low

      high : in_view.from ≤ n
      high = omega (arith, in_view.process.high, some_process m.table)

      first_shown : ((row_of b in_view.from).core.token ≡ pos in_view.number) × (is_none (row_of b in_view.from).core.token ≡ false)
      first_shown = shown_held _ in_view.number (sym (token_shown in_view.from low high) ∙ in_view.holds)

      first : Holds n b in_view.from
      first = record { low = low; high = high; token = first_shown.1 }

      first_number : (token_number in_view.from first).number ≡ in_view.number
      first_number = ap nat_abs (sym (token_number in_view.from first).is ∙ first_shown.0)

pub bounded_for_ever : BoundedForEver
bounded_for_ever n c schedule =
    let last = mirror_course n (fresh_table bounded n) schedule (record { state = fresh; mirrors = fresh_mirrors n c }) in
    let t = (course_of (fresh_table bounded n) schedule).table in
    let m = last.mirrors in
    (mirror_at_most_one n t _ m, held_together n t _ m, mirror_accepts n t _ m)
