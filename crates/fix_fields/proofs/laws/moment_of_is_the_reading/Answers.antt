use Rattle.std.proofs.Common.{inl, refl}
use Rattle.fix_fields.specs.UtcTimestamp.{timestamp_text}
use Rattle.fix_fields.proofs.MomentLemmas.{timestamp_once, is_own, moment_of-own}
use Rattle.fix_fields.proofs.laws.moment_of_is_the_reading.Goals as goal

pub returns-clause-one : goal.returns-clause-one
returns-clause-one c = λ text day other n m is that. timestamp_once text day other n m is that

pub returns-clause-reads : goal.returns-clause-reads
returns-clause-reads c = λ date text n. (λ is. is_own date n text is, λ spelled. moment_of-own date n text spelled)

pub returns-clause-written : goal.returns-clause-written
returns-clause-written c = λ date n day below.
    moment_of-own date n (timestamp_text date n) (record { date_is = day; moment = below; spelling = inl refl })
