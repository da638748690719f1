-- Document 01, "What a reader may rely on": "The promise of each public call determines its answer and every byte it was lent, for all
-- inputs, refusals too. Any two answers meeting it are proved the same".
use Rattle.std.specs.Prelude.{ℕ, ◌≡◌, List}
use contract.Lifetimes.{Lfts}
use denote.Triple.Clauses.{AtExit}
use borrow.Fn.Kinds.{ParamKind, ResultKind, In, Out, Dens, res_t, ended_of}

-- A call has lifetimes, kinds of parameters and a kind of result. Its contract is what it asks of its caller and what it promises, as the
-- toolchain reads them off its `requires` and `ensures` for every caller.
module _ (n : ℕ) (parameters : List (ParamKind n)) (result : ResultKind n) where
  -- what the call is given, what it answers, and its parameters as they are at its end
  abbrev Given : Lfts n → Type 0
  Given κs = Dens κs parameters

  abbrev Answer : Lfts n → Type 0
  Answer κs = (res_t result κs).Denot

  abbrev End : Lfts n → Type 0
  End κs = AtExit (ended_of n parameters result) κs

  module _ (asked : In n parameters) (promised : Out n parameters result) where
    -- What a reader may rely on of a call that is lent no buffer.
    pub record Answers : Type 0 where
      -- it asks nothing of its caller
      pub every_input : (κs : Lfts n) (given : Given κs) → asked κs given
      -- "Any two answers meeting it are proved the same"
      pub one_answer : {κs : Lfts n} {given : Given κs} {a b : Answer κs} {e f : End κs}
          → promised κs given a e → promised κs given b f → a ≡ b

    -- The same of one that is lent a buffer: `lent` is what it holds at the end.
    pub record AnswersAndLeaves (lent : (κs : Lfts n) → End κs → List ℕ) : Type 0 where
      pub answers : Answers
      -- "and every byte it was lent"
      pub one_buffer : {κs : Lfts n} {given : Given κs} {a b : Answer κs} {e f : End κs}
          → promised κs given a e → promised κs given b f → lent κs e ≡ lent κs f
