-- Laws of the test whether nothing is refused, and of the numbers.
use Rattle.std.proofs.Common.{◌≡◌, ◌≤◌, refl, true, false, None, Some, arith}
use Rattle.fields.specs.declared.Refusal.{Refusal}
use Rattle.fields.specs.declared.Refusal.TheVariants.{BadAlgorithm, BadProcessCount, NotWellFormed, BadProcessNumber, AboveTokenLimit}
use Rattle.fields.specs.declared.Refusal.TheVariants.{ScheduleTooLong, EntriesTooShort, BufferTooShort, FormTooShort, WrongKind}
use Rattle.fields.specs.declared.Refusal.TheVariants.{FormTooLong, BadField}
use Rattle.fields.specs.Refusals.{Stop, no_refusal, number_of, stop_number_of, Numbered, is_accepted}

-- where the test holds nothing is refused, and where it fails something is
pub accepted_none : (stop : Stop) → is_accepted stop ≡ true → stop ≡ no_refusal
accepted_none None e = refl
accepted_none (Some refusal) e = cc

pub refused_some : (stop : Stop) → is_accepted stop ≡ false → stop ≡ no_refusal → ⊥
refused_some None e = λ _. cc
refused_some (Some refusal) e = λ q. cc

-- and the other way round
pub none_accepted : (stop : Stop) → stop ≡ no_refusal → is_accepted stop ≡ true
none_accepted stop e = rw e

pub some_refused : (stop : Stop) → (stop ≡ no_refusal → ⊥) → is_accepted stop ≡ false
some_refused None f = absurd (f refl)
some_refused (Some refusal) f = refl

-- each stop has the paper's number
pub numbered : Numbered
numbered = (refl, refl, refl, refl, refl, refl, refl, refl, refl, refl, refl, refl, refl)

-- a stop number is at most 12
pub number_most : (refusal : Refusal) → number_of refusal ≤ 12
number_most BadAlgorithm = omega arith
number_most BadProcessCount = omega arith
number_most NotWellFormed = omega arith
number_most BadProcessNumber = omega arith
number_most AboveTokenLimit = omega arith
number_most ScheduleTooLong = omega arith
number_most EntriesTooShort = omega arith
number_most BufferTooShort = omega arith
number_most FormTooShort = omega arith
number_most WrongKind = omega arith
number_most FormTooLong = omega arith
number_most BadField = omega arith

pub stop_number_most : (stop : Stop) → stop_number_of stop ≤ 12
stop_number_most None = omega arith
stop_number_most (Some refusal) = number_most refusal
