-- Every public call of the library, with what a reader may rely on of it. Of a call C, `C.Reads.Asked` and `C.Reads.Learnt` are what its
-- contract asks and what it promises, as its callers have them: the promise here is the contract's own. `C.Kinds` are its parameters and
-- its result, and the number before them is that of its lifetimes.
use Rattle.fields.proofs.Value
use Rattle.fields.proofs.Refusal
use Rattle.fields.proofs.RefusalPartialEq
use Rattle.fields.proofs.stop_number
use Rattle.fields.proofs.number_within
use Rattle.fields.proofs.limit_of
use Rattle.fields.proofs.algorithm_ok
use Rattle.fields.proofs.count_ok
use Rattle.fields.proofs.x_ok
use Rattle.fields.proofs.line_ok
use Rattle.fields.proofs.index_ok
use Rattle.fields.proofs.choosing_ok
use Rattle.fields.proofs.token_ok
use Rattle.fields.proofs.pivot_ok
use Rattle.fields.proofs.may_hold
use Rattle.fields.proofs.cell_ok
use Rattle.table.proofs.CorePartialEq
use Rattle.table.proofs.RowPartialEq
use Rattle.table.proofs.TablePartialEq
use Rattle.table.proofs.x_of
use Rattle.table.proofs.token_of
use Rattle.table.proofs.pivot_of
use Rattle.table.proofs.well_formed
use Rattle.table.proofs.fresh
use Rattle.tokens.proofs.next_token
use Rattle.tokens.proofs.goes_before
use Rattle.machine.proofs.step
use Rattle.machine.proofs.run
use Rattle.stored.proofs.write
use Rattle.stored.proofs.read
use Rattle.listing.proofs.list
use Rattle.promises.specs.Relied.{Answers, AnswersAndLeaves}

-- `fields`: a number as a table holds it
abbrev pub ValueOfNumberRelied : Type 0
ValueOfNumberRelied = Answers 0 Value.of_number.Kinds.ps Value.of_number.Kinds.r Value.of_number.Reads.Asked Value.of_number.Reads.Learnt

abbrev pub ValueEqualsRelied : Type 0
ValueEqualsRelied = Answers 0 Value.equals.Kinds.ps Value.equals.Kinds.r Value.equals.Reads.Asked Value.equals.Reads.Learnt

abbrev pub ValueIsBelowRelied : Type 0
ValueIsBelowRelied = Answers 0 Value.is_below.Kinds.ps Value.is_below.Kinds.r Value.is_below.Reads.Asked Value.is_below.Reads.Learnt

abbrev pub ValueIsNoneRelied : Type 0
ValueIsNoneRelied = Answers 0 Value.is_none.Kinds.ps Value.is_none.Kinds.r Value.is_none.Reads.Asked Value.is_none.Reads.Learnt

-- `fields`: the number of a refusal and of a call's stop, and whether two refusals are the same
abbrev pub RefusalNumberRelied : Type 0
RefusalNumberRelied = Answers 0 Refusal.number.Kinds.ps Refusal.number.Kinds.r Refusal.number.Reads.Asked Refusal.number.Reads.Learnt

abbrev pub StopNumberRelied : Type 0
StopNumberRelied = Answers 0 stop_number.Kinds.ps stop_number.Kinds.r stop_number.Reads.Asked stop_number.Reads.Learnt

abbrev pub RefusalEqRelied : Type 0
RefusalEqRelied = Answers 2 RefusalPartialEq.eq.Kinds.ps RefusalPartialEq.eq.Kinds.r RefusalPartialEq.eq.Reads.Asked RefusalPartialEq.eq.Reads.Learnt

-- `fields`: what the rules are said in, and the rule of each field
abbrev pub NumberWithinRelied : Type 0
NumberWithinRelied = Answers 0 number_within.Kinds.ps number_within.Kinds.r number_within.Reads.Asked number_within.Reads.Learnt

abbrev pub LimitOfRelied : Type 0
LimitOfRelied = Answers 0 limit_of.Kinds.ps limit_of.Kinds.r limit_of.Reads.Asked limit_of.Reads.Learnt

abbrev pub AlgorithmOkRelied : Type 0
AlgorithmOkRelied = Answers 0 algorithm_ok.Kinds.ps algorithm_ok.Kinds.r algorithm_ok.Reads.Asked algorithm_ok.Reads.Learnt

abbrev pub CountOkRelied : Type 0
CountOkRelied = Answers 0 count_ok.Kinds.ps count_ok.Kinds.r count_ok.Reads.Asked count_ok.Reads.Learnt

abbrev pub XOkRelied : Type 0
XOkRelied = Answers 0 x_ok.Kinds.ps x_ok.Kinds.r x_ok.Reads.Asked x_ok.Reads.Learnt

abbrev pub LineOkRelied : Type 0
LineOkRelied = Answers 0 line_ok.Kinds.ps line_ok.Kinds.r line_ok.Reads.Asked line_ok.Reads.Learnt

abbrev pub IndexOkRelied : Type 0
IndexOkRelied = Answers 0 index_ok.Kinds.ps index_ok.Kinds.r index_ok.Reads.Asked index_ok.Reads.Learnt

abbrev pub ChoosingOkRelied : Type 0
ChoosingOkRelied = Answers 0 choosing_ok.Kinds.ps choosing_ok.Kinds.r choosing_ok.Reads.Asked choosing_ok.Reads.Learnt

abbrev pub TokenOkRelied : Type 0
TokenOkRelied = Answers 0 token_ok.Kinds.ps token_ok.Kinds.r token_ok.Reads.Asked token_ok.Reads.Learnt

abbrev pub PivotOkRelied : Type 0
PivotOkRelied = Answers 0 pivot_ok.Kinds.ps pivot_ok.Kinds.r pivot_ok.Reads.Asked pivot_ok.Reads.Learnt

abbrev pub MayHoldRelied : Type 0
MayHoldRelied = Answers 0 may_hold.Kinds.ps may_hold.Kinds.r may_hold.Reads.Asked may_hold.Reads.Learnt

abbrev pub CellOkRelied : Type 0
CellOkRelied = Answers 0 cell_ok.Kinds.ps cell_ok.Kinds.r cell_ok.Reads.Asked cell_ok.Reads.Learnt

-- `table`: whether two of them are equal: `==` at cores, rows and tables, which the derives make
abbrev pub CoreEqRelied : Type 0
CoreEqRelied = Answers 2 CorePartialEq.eq.Kinds.ps CorePartialEq.eq.Kinds.r CorePartialEq.eq.Reads.Asked CorePartialEq.eq.Reads.Learnt

abbrev pub RowEqRelied : Type 0
RowEqRelied = Answers 2 RowPartialEq.eq.Kinds.ps RowPartialEq.eq.Kinds.r RowPartialEq.eq.Reads.Asked RowPartialEq.eq.Reads.Learnt

abbrev pub TableEqRelied : Type 0
TableEqRelied = Answers 2 TablePartialEq.eq.Kinds.ps TablePartialEq.eq.Kinds.r TablePartialEq.eq.Reads.Asked TablePartialEq.eq.Reads.Learnt

-- `table`: the numbers of a table and of a core, when a table is well formed, a fresh table
abbrev pub XOfRelied : Type 0
XOfRelied = Answers 0 x_of.Kinds.ps x_of.Kinds.r x_of.Reads.Asked x_of.Reads.Learnt

abbrev pub TokenOfRelied : Type 0
TokenOfRelied = Answers 0 token_of.Kinds.ps token_of.Kinds.r token_of.Reads.Asked token_of.Reads.Learnt

abbrev pub PivotOfRelied : Type 0
PivotOfRelied = Answers 0 pivot_of.Kinds.ps pivot_of.Kinds.r pivot_of.Reads.Asked pivot_of.Reads.Learnt

abbrev pub WellFormedRelied : Type 0
WellFormedRelied = Answers 0 well_formed.Kinds.ps well_formed.Kinds.r well_formed.Reads.Asked well_formed.Reads.Learnt

abbrev pub FreshRelied : Type 0
FreshRelied = Answers 0 fresh.Kinds.ps fresh.Kinds.r fresh.Reads.Asked fresh.Reads.Learnt

-- `tokens`: the next token, and who goes before
abbrev pub NextTokenRelied : Type 0
NextTokenRelied = Answers 0 next_token.Kinds.ps next_token.Kinds.r next_token.Reads.Asked next_token.Reads.Learnt

abbrev pub GoesBeforeRelied : Type 0
GoesBeforeRelied = Answers 0 goes_before.Kinds.ps goes_before.Kinds.r goes_before.Reads.Asked goes_before.Reads.Learnt

-- `machine`: one step of a table, and a run; the entry buffer of the run is the third parameter
abbrev pub StepRelied : Type 0
StepRelied = Answers 0 step.Kinds.ps step.Kinds.r step.Reads.Asked step.Reads.Learnt

abbrev pub RunRelied : Type 0
RunRelied = AnswersAndLeaves 2 run.Kinds.ps run.Kinds.r run.Reads.Asked run.Reads.Learnt (λ κs e. e.1.1.0.now)

-- `stored`: writing and reading; the buffer of writing is the second parameter
abbrev pub WriteRelied : Type 0
WriteRelied = AnswersAndLeaves 1 write.Kinds.ps write.Kinds.r write.Reads.Asked write.Reads.Learnt (λ κs e. e.1.0.now)

abbrev pub ReadRelied : Type 0
ReadRelied = Answers 1 read.Kinds.ps read.Kinds.r read.Reads.Asked read.Reads.Learnt

-- `listing`: the entry lister; the text is the second parameter
abbrev pub ListRelied : Type 0
ListRelied = AnswersAndLeaves 2 list.Kinds.ps list.Kinds.r list.Reads.Asked list.Reads.Learnt (λ κs e. e.1.0.now)
