-- The loop of a run, on any machine: what it has come to is the course of the bytes passed.
use Prim.Native.Nat.{ℕ, ◌+◌, ◌-◌, ◌<◌, ◌≤◌}
use mathlib.Core.Path.{◌≡◌, refl, sym, ◌∙◌}
use mathlib.Core.Bool.{Bool, cond}
use mathlib.Core.List.{List, [], ◌∷◌, ◌++◌}
use native.Mathlib.Omega.{arith}
use lib.ListN.{length, get_or, take, set, length-append, length-set}
use lib.Seq.{take_all}
use Rattle.laws.specs.Lent.{in_front}
use Rattle.laws.proofs.Tests.{by_test}
use Rattle.fields.specs.Refusals.{Stop, no_refusal}
use Rattle.courses.specs.Course.{Machine, Turn, Course, turn_on, course_on, those, changed, moved_in, waited_in, processes_of}
use Rattle.courses.proofs.Counts.{count_most, count_more, moved_more, noted}
use Rattle.courses.proofs.Courses.{byte_taken, byte_refused, Keeps, Marks, bytes_taken}

-- What the loop asks of a machine: a step that is taken keeps P, which is what the loop needs to know of its table, and marks are 0 or 1.
pub record Lawful {T : Type 0} (m : Machine T) (P : T → Type 0) : Type 0 where
  pub keeps : Keeps m P
  pub marks : Marks m

-- What the loop holds where it has come to course c: t and `stop` are its last table and its stop number; k bytes were taken, `moved` of
-- them changed the table, and the others waited; f holds of `listed` of the turns (of those that are entries, in a run), and their processes
-- stand in front of the buffer, which was b₀ and is b. The answer of a run is read off it.
pub record Reached {T : Type 0} (c : Course T) (f : Turn → Bool) (b₀ b : List ℕ) (t : T) (moved listed k : ℕ) (stop : Stop) : Type 0 where
  pub table : t ≡ c.table
  pub moves : moved ≡ moved_in c.turns
  pub waits : k - moved ≡ waited_in c.turns
  pub lists : listed ≡ length (those f c.turns)
  pub place : k ≡ length c.turns
  pub ended : stop ≡ c.stop
  pub front : b ≡ in_front (processes_of (those f c.turns)) b₀

-- The loop's invariant: k bytes of schedule s are passed, and the loop has come to their course from table t₀, in which none was refused.
pub record Going {T : Type 0} (m : Machine T) (f : Turn → Bool) (P : T → Type 0) (s b₀ : List ℕ) (t₀ : T) (b : List ℕ) (t : T)
    (moved listed k : ℕ) : Type 0 where
  pub inside : k ≤ length s
  pub so_far : Reached (course_on m t₀ (take k s)) f b₀ b t moved listed k no_refusal
  pub holds : P t
  pub same : length b ≡ length b₀

-- no byte is passed yet
pub begins : {T : Type 0} {m : Machine T} {f : Turn → Bool} {P : T → Type 0} (s b : List ℕ) (t : T) → P t → Going m f P s b t b t 0 0 0
unfolding course_on those
begins s b t p =
    record {
      inside = omega arith;
      so_far = record { table = refl; moves = refl; waits = refl; lists = refl; place = refl; ended = refl; front = refl };
      holds = p;
      same = refl;
    }

module _ {T : Type 0} {m : Machine T} {f : Turn → Bool} {P : T → Type 0} {s b₀ b : List ℕ} {t₀ t : T} {moved listed k : ℕ}
    (g : Going m f P s b₀ t₀ b t moved listed k) where
  -- the course so far, by its turns
  abbrev turns : List Turn
  turns = (course_on m t₀ (take k s)).turns

  came : course_on m t₀ (take k s) ≡ record { turns = turns; table = t; stop = no_refusal }
  came = λ at. record { turns = turns; table = sym g.so_far.table at; stop = sym g.so_far.ended at }

  -- no count is above the number of bytes passed
  pub moved_few : moved ≤ k
  moved_few = omega (arith, g.so_far.moves, g.so_far.place, count_most changed turns)

  pub listed_few : listed ≤ k
  listed_few = omega (arith, g.so_far.lists, g.so_far.place, count_most f turns)

  -- one byte more is taken
  pub takes : Lawful m P → k < length s → length s ≤ length b₀ → m.stop t (get_or s k 0) ≡ no_refusal
      → let i = get_or s k 0 in
      let u = turn_on m t i in
      Going m f P s b₀ t₀ (cond (f u) (set b listed i) b) (m.after t i) (moved + m.mark t i) (listed + cond (f u) 1 0) (k + 1)
  takes lawful more most stop =
      let i = get_or s k 0 in
      let u = turn_on m t i in
      let r = g.so_far in
      let next = byte_taken m t₀ s k turns t more came stop in
      let moves : moved + u.mark ≡ moved_in (turns ++ (u ∷ [])) = rw (r.moves, moved_more u turns (lawful.marks t i)) in
      let place : k + 1 ≡ length (turns ++ (u ∷ [])) = omega (arith, r.place, length-append turns (u ∷ [])) in
      let both = rw next at (bytes_taken m lawful.marks t₀ (take (k + 1) s)) in
      let room : length (those f turns) < length b₀ = omega (arith, listed_few, r.lists) in
      record {
        inside = omega arith;
        so_far = rw next
            (record {
              table = refl;
              moves = moves;
              waits = omega (arith, both, moves, place);
              lists = rw (r.lists, count_more f u turns);
              place = place;
              ended = refl;
              front = rw (r.front, r.lists) (noted f u turns b₀ room);
            });
        holds = lawful.keeps t i stop g.holds;
        same = by_test (λ (l : List ℕ). length l ≡ length b₀) (f u) (λ _. length-set b listed i ∙ g.same) (λ _. g.same);
      }

  -- a byte is refused
  pub stops : {stop : Stop} → k < length s → m.stop t (get_or s k 0) ≡ stop → (stop ≡ no_refusal → ⊥)
      → Reached (course_on m t₀ s) f b₀ b t moved listed k stop
  stops more e refused =
      let r = g.so_far in
      rw (byte_refused m t₀ s k turns t more came (λ q. refused (sym e ∙ q)))
      (record {
        table = refl;
        moves = r.moves;
        waits = r.waits;
        lists = r.lists;
        place = r.place;
        ended = sym e;
        front = r.front;
      })

  -- no byte is left
  pub ends : length s ≤ k → Reached (course_on m t₀ s) f b₀ b t moved listed k no_refusal
  ends done = rw (take_all k s done) at g.so_far
