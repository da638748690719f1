-- The bounded machine does what the unbounded one does, on remainders.
use Prim.Native.Nat.{ℕ, zero, suc, ◌%◌}
use mathlib.Core.Path.{◌≡◌, refl, sym, ap, ◌∙◌}
use mathlib.Core.Bool.{cond}
use native.Mathlib.Nat.{zero-mod}
use native.Mathlib.Omega.{arith}
use borrow.Author.Tests.{ne_eqb}
use lib.Dec.{eqb}
use Rattle.laws.proofs.Tests.{of_choice}
use Rattle.theory.proofs.Counting.{Process}
use Rattle.theory.proofs.Tokens.{Token, none, held, IsHeld, modulus, reduced, next_unbounded, next_bounded, unbounded_machine}
use Rattle.theory.proofs.Tokens.{bounded_machine}
use Rattle.theory.proofs.Remainders.{Near, lemma_1, lemma_2}
use Rattle.theory.proofs.Model.{Place, at1, at2, at3, at4, at5, at6, at7, at8, at9, at10, Row, State, fresh, set, put, after_cell}
use Rattle.theory.proofs.Model.{passes, moves_at, moves, row_after, x_after, moved, step}
use Rattle.theory.proofs.Invariant.{Invariant, own_at}
use Rattle.theory.proofs.Theorems.{theorem_2, theorem_3}

-- a row, and a state, on remainders: the same lines and indices, and f of X, every token, pivot and cell
abbrev pub row_reduced : ℕ → Row → Row
row_reduced others r = record {
  place = r.place;
  token = reduced others r.token;
  pivot = reduced others r.pivot;
  cell = λ k. reduced others (r.cell k);
}

abbrev pub remainders : ℕ → State → State
remainders others s = record { x = reduced others s.x; row = λ i. row_reduced others (s.row i) }

-- both machines begin alike
pub fresh_on_remainders : (others : ℕ) → remainders others fresh ≡ fresh
fresh_on_remainders others = ap (λ (v : ℕ). record { x = held v; row = fresh.row }) (zero-mod (modulus others))

-- What Theorems 2 and 3 of source 002 say to process i, which is all that the bounded machine needs.
pub record Clustered (others : ℕ) (s : State) (i : ℕ) : Type 0 where
  -- at line 4 it has a pivot, and the tokens that it read at line 2 cluster around the pivot
  pub has_pivot : (s.row i).place ≡ at4 → IsHeld (s.row i).pivot
  pub around_pivot : (s.row i).place ≡ at4
      → (p k v : ℕ) → Process (suc others) k → (s.row i).pivot ≡ held p → (s.row i).cell k ≡ held v → Near others p v
  -- at line 7 it holds a token, and the token that it reads is near its own
  pub has_token : (j : ℕ) → (s.row i).place ≡ at7 j → IsHeld (s.row i).token
  pub around_token : (j : ℕ) → (s.row i).place ≡ at7 j
      → (v w : ℕ) → (s.row i).token ≡ held v → (s.row j).token ≡ held w → Near others v w

-- the next token on remainders is the remainder of the next token, by Lemma 1
next_on_remainders : (others : ℕ) (pivot : Token) (cell : ℕ → Token) → IsHeld pivot
    → ((p k v : ℕ) → Process (suc others) k → pivot ≡ held p → cell k ≡ held v → Near others p v)
    → next_bounded (modulus others) others (reduced others pivot) (λ k. reduced others (cell k))
    ≡ reduced others (next_unbounded others pivot cell)
next_on_remainders others zero cell some near = absurd (omega arith)
next_on_remainders others (suc p) cell some near = lemma_1 others p cell (λ k v q. near p k v q refl)

-- a process passes another on remainders just where it passes it, by Lemma 2
passes_on_remainders : (others i : ℕ) (t : Token) (j : ℕ) (u : Token) → IsHeld t
    → ((v w : ℕ) → t ≡ held v → u ≡ held w → Near others v w)
    → passes (bounded_machine others) i (reduced others t) j (reduced others u) ≡ passes (unbounded_machine others) i t j u
passes_on_remainders others i zero j u some near = absurd (omega arith)
passes_on_remainders others i (suc v) j zero some near = refl
passes_on_remainders others i (suc v) j (suc w) some near =
    rw (ne_eqb (held (w % modulus others)) none (omega arith), ne_eqb (held w) none (omega arith))
    (lemma_2 others i v j w (near v w refl refl))

-- g of the values where one is set: the values of g, where one is set
of_set : {A B : Type 0} (g : A → B) (f : ℕ → A) (i : ℕ) (a : A) → set (λ k. g (f k)) i (g a) ≡ (λ k. g (set f i a k))
of_set g f i a = λ at k. sym (of_choice g (eqb k i) a (f k)) at

-- a row and X put on remainders
put_on_remainders : (others : ℕ) (s : State) (i : ℕ) (x : Token) (r : Row)
    → put (remainders others s) i (reduced others x) (row_reduced others r) ≡ remainders others (put s i x r)
put_on_remainders others s i x r = λ at. record { x = reduced others x; row = of_set (row_reduced others) s.row i r at }

-- The step of process i.
module _ (others : ℕ) (s : State) (i : ℕ) (clustered : Clustered others s i) where
  -- at a place the two machines agree: on whether it moves, on X after it, and on its row after it
  record Agree (a : Place) : Type 0 where
    moves : moves_at (bounded_machine others) (remainders others s) i a ≡ moves_at (unbounded_machine others) s i a
    x : x_after (remainders others s) i a ≡ reduced others (x_after s i a)
    row : row_after others (bounded_machine others) (remainders others s) i a
        ≡ row_reduced others (row_after others (unbounded_machine others) s i a)

  -- line by line: line 2 sets a cell, Lemma 1 is for line 4, and Lemma 2 for line 7
  agree_at : (a : Place) → (s.row i).place ≡ a → Agree a
  agree_at at1 e = record { moves = refl; x = refl; row = refl }
  agree_at (at2 j) e = record {
    moves = refl;
    x = refl;
    row = λ at. record {
      place = after_cell (suc others) j;
      token = reduced others (s.row i).token;
      pivot = reduced others (s.row i).pivot;
      cell = of_set (reduced others) (s.row i).cell j (s.row j).token at;
    };
  }
  agree_at at3 e = record { moves = refl; x = refl; row = refl }
  agree_at at4 e = record {
    moves = refl;
    x = refl;
    row = λ at. record {
      place = at5;
      token = next_on_remainders others (s.row i).pivot (s.row i).cell (clustered.has_pivot e) (clustered.around_pivot e) at;
      pivot = none;
      cell = λ _. none;
    };
  }
  agree_at at5 e = record { moves = refl; x = refl; row = refl }
  agree_at (at6 j) e = record { moves = refl; x = refl; row = refl }
  agree_at (at7 j) e = record {
    moves =
        passes_on_remainders others i (s.row i).token j (s.row j).token (clustered.has_token j e) (clustered.around_token j e);
    x = refl;
    row = refl;
  }
  agree_at at8 e = record { moves = refl; x = refl; row = refl }
  agree_at at9 e = record { moves = refl; x = refl; row = refl }
  agree_at at10 e = record { moves = refl; x = refl; row = refl }

  agree : Agree (s.row i).place
  agree = agree_at (s.row i).place refl

  -- the bounded machine moves where the unbounded one does
  pub moves_on_remainders : moves (bounded_machine others) (remainders others s) i ≡ moves (unbounded_machine others) s i
  moves_on_remainders = agree.moves

  -- to the remainders of where that one goes
  moved_on_remainders : moved others (bounded_machine others) (remainders others s) i
      ≡ remainders others (moved others (unbounded_machine others) s i)
  moved_on_remainders =
      (λ at. put (remainders others s) i (agree.x at) (agree.row at))
      ∙ put_on_remainders others s i (x_after s i (s.row i).place) _

  -- and a step on remainders is the remainders of the step
  pub step_on_remainders : step others (bounded_machine others) (remainders others s) i
      ≡ remainders others (step others (unbounded_machine others) s i)
  step_on_remainders =
      (λ at. cond (moves_on_remainders at) (moved_on_remainders at) (remainders others s))
      ∙ sym (of_choice (remainders others) (moves (unbounded_machine others) s i) (moved others (unbounded_machine others) s i) s)

-- The invariant gives each process that.
pub clustered : (others : ℕ) (s : State) → Invariant others s → (i : ℕ) → Process (suc others) i → Clustered others s i
clustered others s inv i process =
    record {
      has_pivot = λ e. (own_at others s inv i process at4 e).has_pivot;
      around_pivot = λ e p k v _. theorem_2 others s inv i k p v process e;
      has_token = λ j e. omega (arith, inv.begun, (own_at others s inv i process (at7 j) e).token.at_least_x);
      around_token = λ j e v w. theorem_3 others s inv i j v w process (own_at others s inv i process (at7 j) e).index;
    }
