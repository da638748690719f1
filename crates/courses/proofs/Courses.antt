-- The laws of a course, on any machine: a schedule after another, one byte more, and what every step keeps.
use Prim.Native.Nat.{ℕ, suc, ◌+◌, ◌<◌, ◌≤◌}
use mathlib.Core.Path.{◌≡◌, refl, sym, ap, ◌∙◌}
use mathlib.Core.Bool.{Bool, true, false, cond}
use mathlib.Core.List.{List, [], ◌∷◌, ◌++◌, append_assoc, append-nil}
use mathlib.Core.Logic.{◌⊎◌}
use native.Mathlib.Numerals.{add-one}
use native.Mathlib.Omega.{arith}
use lib.ListN.{length, get_or, take, drop}
use lib.Seq.{take-suc, split_at}
use Rattle.laws.proofs.Tests.{by_test, of_choice}
use Rattle.fields.specs.Refusals.{no_refusal, is_accepted}
use Rattle.fields.proofs.Stops.{accepted_none, refused_some, none_accepted, some_refused}
use Rattle.courses.specs.Course.{Machine, Turn, Course, turn_on, stands_at, begun_by, course_on, those, moved_in, waited_in, processes_of}
use Rattle.courses.proofs.Counts.{processes_append, counts_none, counts_first}

module _ {T : Type 0} (m : Machine T) where
  -- A course goes on with a later schedule from its last table, unless a byte was refused.
  abbrev pub goes_on_with : List ℕ → Course T → Course T
  goes_on_with later c = cond (is_accepted c.stop) (begun_by c.turns (course_on m c.table later)) c

  -- turns before a course do not change how it goes on
  begun_on : (us : List Turn) (later : List ℕ) (c : Course T) → begun_by us (goes_on_with later c) ≡ goes_on_with later (begun_by us c)
  begun_on us later c =
      let on = course_on m c.table later in
      let both : begun_by us (begun_by c.turns on) ≡ begun_by (us ++ c.turns) on =
      λ at. record { turns = sym (append_assoc us c.turns on.turns) at; table = on.table; stop = on.stop } in
      of_choice (begun_by us) (is_accepted c.stop) (begun_by c.turns on) c ∙ rw both

  -- A schedule followed by another: the one course, and then the other.
  pub course_append : (t : T) (s later : List ℕ) → course_on m t (s ++ later) ≡ goes_on_with later (course_on m t s)
  unfolding course_on
  course_append t [] later = refl
  course_append t (i ∷ s) later =
      by_bool (is_accepted (m.stop t i)) refl (course_append (m.after t i) s later)
    where
      one : List Turn
      one = turn_on m t i ∷ []

      next : T
      next = m.after t i

      stopped : Course T
      stopped = stands_at t (m.stop t i)

      by_bool : (b : Bool) → is_accepted (m.stop t i) ≡ b → course_on m next (s ++ later) ≡ goes_on_with later (course_on m next s)
          → cond b (begun_by one (course_on m next (s ++ later))) stopped ≡ goes_on_with later (cond b (begun_by one (course_on m next s)) stopped)
      by_bool true e onward = ap (begun_by one) onward ∙ begun_on one later (course_on m next s)
      by_bool false e onward = rw e

  -- where no byte of the first is refused
  module _ (t : T) (s later : List ℕ) (going : (course_on m t s).stop ≡ no_refusal) where
    pub course_goes_on : course_on m t (s ++ later) ≡ begun_by (course_on m t s).turns (course_on m (course_on m t s).table later)
    course_goes_on = course_append t s later ∙ rw (none_accepted _ going)

    -- the processes of some turns of the first, as its entries, stand before those of the other
    pub processes_in_turn : (f : Turn → Bool)
        → processes_of (those f (course_on m t (s ++ later)).turns)
        ≡ processes_of (those f (course_on m t s).turns) ++ processes_of (those f (course_on m (course_on m t s).table later).turns)
    processes_in_turn f =
        ap (λ (c : Course T). processes_of (those f c.turns)) course_goes_on
        ∙ processes_append f (course_on m t s).turns (course_on m (course_on m t s).table later).turns

  -- The first byte of a schedule, if it is taken.
  pub course_first : (t : T) (i : ℕ) (later : List ℕ) → m.stop t i ≡ no_refusal
      → course_on m t (i ∷ later) ≡ begun_by (turn_on m t i ∷ []) (course_on m (m.after t i) later)
  unfolding course_on
  course_first t i later e = rw (none_accepted (m.stop t i) e)

  -- where no byte is refused, each is taken
  pub all_taken : (t : T) (s : List ℕ) → (course_on m t s).stop ≡ no_refusal → length (course_on m t s).turns ≡ length s
  unfolding course_on
  all_taken t [] = λ _. refl
  all_taken t (i ∷ s) =
      by_test (λ (c : Course T). c.stop ≡ no_refusal → length c.turns ≡ suc (length s)) (is_accepted (m.stop t i))
      (λ _ e. ap suc (all_taken (m.after t i) s e))
      (λ refused e. absurd (refused_some (m.stop t i) refused e))

  -- and no more are taken than there are
  pub taken_most : (t : T) (s : List ℕ) → length (course_on m t s).turns ≤ length s
  unfolding course_on
  taken_most t [] = omega arith
  taken_most t (i ∷ s) =
      by_test (λ (c : Course T). length c.turns ≤ suc (length s)) (is_accepted (m.stop t i))
      (λ _. omega (arith, taken_most (m.after t i) s))
      (λ _. omega arith)

  -- A byte more of a schedule, where none before it is refused and they lead from t to now: it is taken, or it stops the course.
  module _ (t : T) (s : List ℕ) (k : ℕ) (us : List Turn) (now : T) (inside : k < length s)
      (so_far : course_on m t (take k s) ≡ record { turns = us; table = now; stop = no_refusal }) where
    pub byte_taken : m.stop now (get_or s k 0) ≡ no_refusal
        → course_on m t (take (k + 1) s)
        ≡ record { turns = us ++ (turn_on m now (get_or s k 0) ∷ []); table = m.after now (get_or s k 0); stop = no_refusal }
    unfolding course_on
    byte_taken e =
        let more : take (k + 1) s ≡ take k s ++ (get_or s k 0 ∷ []) = rw (add-one k) (take-suc s k 0 inside) in
        ap (course_on m t) more ∙ course_append t (take k s) (get_or s k 0 ∷ []) ∙ rw (so_far, none_accepted _ e)

    pub byte_refused : (m.stop now (get_or s k 0) ≡ no_refusal → ⊥)
        → course_on m t s ≡ record { turns = us; table = now; stop = m.stop now (get_or s k 0) }
    unfolding course_on
    byte_refused e =
        ap (course_on m t) (split_at s k 0 inside) ∙ course_append t (take k s) (get_or s k 0 ∷ drop (suc k) s)
        ∙ rw (so_far, some_refused _ e, append-nil us)

-- What each step that is taken keeps holds of the last table of a course, if it holds of the first one.
abbrev pub Keeps : {T : Type 0} → Machine T → (T → Type 0) → Type 0
Keeps {T} m P = (t : T) (i : ℕ) → m.stop t i ≡ no_refusal → P t → P (m.after t i)

pub course_keeps : {T : Type 0} (m : Machine T) (P : T → Type 0) → Keeps m P → (t : T) (s : List ℕ) → P t → P (course_on m t s).table
unfolding course_on
course_keeps m P keeps t [] p = p
course_keeps {T} m P keeps t (i ∷ s) p =
    by_test (λ (c : Course T). P c.table) (is_accepted (m.stop t i))
    (λ taken. course_keeps m P keeps (m.after t i) s (keeps t i (accepted_none (m.stop t i) taken) p))
    (λ _. p)

-- Where each mark is 0 or 1, "moved plus waited is the number of schedule bytes taken".
abbrev pub Marks : {T : Type 0} → Machine T → Type 0
Marks {T} m = (t : T) (i : ℕ) → (m.mark t i ≡ 0) ⊎ (m.mark t i ≡ 1)

pub bytes_taken : {T : Type 0} (m : Machine T) → Marks m → (t : T) (s : List ℕ)
    → moved_in (course_on m t s).turns + waited_in (course_on m t s).turns ≡ length (course_on m t s).turns
unfolding course_on
bytes_taken m marks t [] = counts_none
bytes_taken {T} m marks t (i ∷ s) =
    by_test (λ (c : Course T). moved_in c.turns + waited_in c.turns ≡ length c.turns) (is_accepted (m.stop t i))
    (λ _. counts_first (turn_on m t i) (course_on m (m.after t i) s).turns (marks t i) (bytes_taken m marks (m.after t i) s))
    (λ _. counts_none)
