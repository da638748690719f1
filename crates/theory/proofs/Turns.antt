-- A turn: one process puts its row anew, and perhaps X. What a turn owes, and that it then keeps the invariant; each line owes only this.
use Prim.Native.Nat.{ℕ, suc, ◌+◌, ◌≤◌, ◌<◌}
use mathlib.Core.Path.{◌≡◌, refl, sym, subst}
use native.Mathlib.Omega.{arith}
use borrow.Author.Tests.{eqb-true, eqb-false}
use lib.Dec.{eqb}
use Rattle.laws.proofs.Tests.{by_test}
use Rattle.theory.proofs.Counting.{Process, below, below_mono, sum_mono, Has}
use Rattle.theory.proofs.Tokens.{Token}
use Rattle.theory.proofs.Model.{Place, at1, at2, at3, at4, at5, at6, at7, at8, at9, at10, Row, State, set, put}
use Rattle.theory.proofs.Invariant.{read_below, due_below, KnowsOf, due_over, Reads, Own, OwnOf, NoGap, Invariant}

-- the value at i is the one that was set
pub set_same : {A : Type 0} (f : ℕ → A) (i : ℕ) (a : A) → set f i a i ≡ a
set_same f i a = by_test (λ b. b ≡ a) (eqb i i) (λ _. refl) (λ t. absurd (eqb-false i i t refl))

-- what holds of the value set, and of each other value, holds of each value after
pub set_each : {A : Type 0} (P : ℕ → A → Type 0) (f : ℕ → A) (i : ℕ) (a : A) → P i a → ((k : ℕ) → ¬ (k ≡ i) → P k (f k))
    → (k : ℕ) → P k (set f i a k)
set_each P f i a one rest k =
    by_test (P k) (eqb k i) (λ t. subst (λ (j : ℕ). P j a) (sym (eqb-true k i t)) one) (λ t. rest k (eqb-false k i t))

-- and so of each two
set_pairs : {A : Type 0} (P : ℕ → A → ℕ → A → Type 0) (f : ℕ → A) (i : ℕ) (a : A)
    → ((k : ℕ) → ¬ (k ≡ i) → P i a k (f k)) → ((k : ℕ) → ¬ (k ≡ i) → P k (f k) i a)
    → ((k j : ℕ) → ¬ (k ≡ j) → P k (f k) j (f j))
    → (k j : ℕ) → ¬ (k ≡ j) → P k (set f i a k) j (set f i a j)
set_pairs P f i a left right rest k j apart =
    set_each (λ k b. ¬ (k ≡ j) → P k b j (set f i a j)) f i a
    (λ o. set_each (λ j c. ¬ (i ≡ j) → P i a j c) f i a (λ o. absurd (o refl)) (λ j e _. left j e) j o)
    (λ k d. set_each (λ j c. ¬ (k ≡ j) → P k (f k) j c) f i a (λ _. right k d) (λ j _ o. rest k j o) j)
    k apart

-- A process that reads stays sure of its cells where X and those that are due together come no higher.
pub reads_still : {others : ℕ} {t : Token} {cell : ℕ → Token} (x x' due due' : ℕ) → x' + due' ≤ x + due → Reads others x due t cell
    → Reads others x' due' t cell
reads_still x x' due due' le o = record { no_token = o.no_token; not_far_behind = λ k l. omega (arith, o.not_far_behind k l) }

-- A process stays sure of what its line says where fewer are due over it. (Only while it reads does the number matter.)
own_due : (others i x due due' : ℕ) (t p : Token) (cell : ℕ → Token) (place : Place) → (1 ≤ read_below others place → due' ≤ due)
    → Own others i x due t p cell place → Own others i x due' t p cell place
own_due others i x due due' t p cell at1 fewer o = o
own_due others i x due due' t p cell (at2 j) fewer o =
    record { index = o.index; reads = reads_still x x due due' (omega (arith, fewer o.index.low)) o.reads }
own_due others i x due due' t p cell at3 fewer o =
    reads_still x x due due' (omega (arith, fewer (omega arith))) o
own_due others i x due due' t p cell at4 fewer o = o
own_due others i x due due' t p cell at5 fewer o = o
own_due others i x due due' t p cell (at6 j) fewer o = o
own_due others i x due due' t p cell (at7 j) fewer o = o
own_due others i x due due' t p cell at8 fewer o = o
own_due others i x due due' t p cell at9 fewer o = o
own_due others i x due due' t p cell at10 fewer o = o

-- what is said of each process other than i
abbrev pub EachOther : ℕ → ℕ → (ℕ → Type 0) → Type 0
EachOther others i P = (j : ℕ) → Process (suc others) j → ¬ (j ≡ i) → P j

-- at this place process i is newly due over no process that reads
abbrev pub NoMoreDue : ℕ → State → ℕ → Place → Type 0
NoMoreDue others s i place =
    EachOther others i (λ j. 1 ≤ read_below others (s.row j).place → j < due_below others place → j < due_below others (s.row i).place)

-- Process i puts row r, and X becomes x.
module _ (others : ℕ) (s : State) (i : ℕ) (x : Token) (r : Row) where
  -- the rows after it
  abbrev after : ℕ → Row
  after = set s.row i r

  -- what it owes
  pub record Turn : Type 0 where
    -- the process itself, and each other, is sure of what its line says;
    pub own : OwnOf others i x (due_over others after i) r
    pub others_own : EachOther others i (λ j. OwnOf others j x (due_over others after j) (s.row j))
    -- it knows of each other, and each other of it, what the invariant says;
    pub knows : EachOther others i (λ j. KnowsOf others i r j (s.row j))
    pub known : EachOther others i (λ j. KnowsOf others j (s.row j) i r)
    -- X does not fall (Observation 1 of source 002), and no token above it is given up;
    pub rises : s.x ≤ x
    pub keeps : (a : ℕ) → x < a → (s.row i).token ≡ a → r.token ≡ a
    -- and there is no gap up to its token, nor up to its cells
    pub no_gap_to_token : NoGap others x after r.token
    pub no_gap_to_cell : (k : ℕ) → NoGap others x after (r.cell k)

  -- where X does not fall and no token above it is given up, there is still no gap where there was none
  pub no_gap_kept : s.x ≤ x → ((a : ℕ) → x < a → (s.row i).token ≡ a → r.token ≡ a) → (v : Token)
      → NoGap others s.x s.row v → NoGap others x after v
  no_gap_kept rises keeps v gap a l m =
      let h : Has (λ k. (s.row k).token) (suc others) a = gap a (omega arith) m in
      record { who = h.who; process = h.process; is = still h.who h.is }
    where
      still : (k : ℕ) → (s.row k).token ≡ a → (after k).token ≡ a
      still k = set_each (λ k b. (s.row k).token ≡ a → b.token ≡ a) s.row i r (keeps a l) (λ k _ e. e) k

  -- a turn that does what it owes keeps the invariant
  pub turn_keeps : Invariant others s → Turn → Invariant others (put s i x r)
  turn_keeps inv turn =
      record {
        begun = omega (arith, inv.begun, turn.rises);
        own = λ k p.
            set_each (λ k b. Process (suc others) k → OwnOf others k x (due_over others after k) b) s.row i r
            (λ _. turn.own) (λ k d p. turn.others_own k p d) k p;
        knows = λ k j p q d.
            set_pairs (λ k a j b. Process (suc others) k → Process (suc others) j → KnowsOf others k a j b) s.row i r
            (λ j d _ q. turn.knows j q d) (λ j d q _. turn.known j q d) (λ k j d p q. inv.knows k j p q d) k j d p q;
        no_gap_to_token = λ k p.
            set_each (λ k b. Process (suc others) k → NoGap others x after b.token) s.row i r
            (λ _. turn.no_gap_to_token) (λ k _ p. keep (s.row k).token (inv.no_gap_to_token k p)) k p;
        no_gap_to_cell = λ k j p.
            set_each (λ k b. Process (suc others) k → NoGap others x after (b.cell j)) s.row i r
            (λ _. turn.no_gap_to_cell j) (λ k _ p. keep ((s.row k).cell j) (inv.no_gap_to_cell k j p)) k p;
      }
    where
      keep : (v : Token) → NoGap others s.x s.row v → NoGap others x after v
      keep = no_gap_kept turn.rises turn.keeps

  -- where i is not newly due over j, no more are due over j
  pub due_no_more : (j : ℕ) → (j < due_below others r.place → j < due_below others (s.row i).place)
      → due_over others after j ≤ due_over others s.row j
  due_no_more j f =
      sum_mono (λ k. below j (due_below others (after k).place)) (λ k. below j (due_below others (s.row k).place)) (suc others)
      (λ k _. set_each (λ k b. below j (due_below others b.place) ≤ below j (due_below others (s.row k).place)) s.row i r
      (below_mono j (due_below others r.place) j (due_below others (s.row i).place) f) (λ k _. omega arith) k)

  -- so with X as it was the others stay sure of what their lines say
  pub others_sure : Invariant others s → NoMoreDue others s i r.place
      → EachOther others i (λ j. OwnOf others j s.x (due_over others after j) (s.row j))
  others_sure inv f j p d =
      own_due others j s.x (due_over others s.row j) (due_over others after j) (s.row j).token (s.row j).pivot (s.row j).cell
      (s.row j).place (λ l. due_no_more j (f j p d l)) (inv.own j p)
