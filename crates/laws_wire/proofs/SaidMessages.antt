-- Messages that are sent one after the other, each under its number, with what is noted beside it:
-- the wire carries them.
use Rattle.std.proofs.Common.{◌≡◌, ℕ, ◌+◌, Bool, true, false, List, [], ◌∷◌, ◌++◌, decimal, length}
use Rattle.std.proofs.Common.{Option, Some, None, sym, ap, ◌∙◌, subst, arith, is_some}
use Rattle.fix_fields.specs.Frame.{Field, frame_of}
use Rattle.fix_fields.specs.UtcTimestamp.{IsDate}
use Rattle.quote_messages.specs.Written.{body_fields, written}
use Rattle.quote_messages.specs.declared.out_messages.Head.{Head}
use Rattle.quote_messages.specs.declared.out_messages.OutMessage.{OutMessage}
use Rattle.wire_messages.specs.ToFirm.{IsTold}
use Rattle.laws_wire.specs.Carriable.{AreToldBeside, CanAllBeCarried, CanBeCarried, IsBrief}
use Rattle.laws_wire.specs.Carriable.{IsToldBeside}
use Rattle.laws_wire.proofs.FieldValues.{IsGiven}
use Rattle.laws_wire.proofs.MessageFields.{MessageGiven, has_reason}
use Rattle.laws_wire.proofs.MessageLemmas.{type_known}
use Rattle.laws_wire.proofs.WrittenFrames.{fits_the_wire, frame_read, none_added, own_tags}
use Rattle.laws_wire.proofs.WrittenFrames.{venue_message}

-- a message of a day of this date, under this number, beside which something is noted or not
pub record IsSaid (D : ℕ → Type 0) (date : List ℕ) (number : ℕ) (bytes : List ℕ) (noted : Bool)
    : Type 0 where
  pub head : Head
  pub message : OutMessage
  pub is : bytes ≡ written head message
  pub date_is : head.date ≡ date
  pub number_is : head.number ≡ number
  pub named : IsGiven head.firm
  pub of_day : D head.moment
  pub given : MessageGiven D message
  pub free : noted ≡ true → has_reason message ≡ false

-- the same of messages from this number on
abbrev pub AreSaid : {Note : Type 0} → (ℕ → Type 0) → List ℕ → ℕ → List (List ℕ)
    → List (Option Note) → Type 0
AreSaid D date number [] [] = Unit {0}
AreSaid D date number [] (its_note ∷ notes) = ⊥
AreSaid D date number (bytes ∷ frames) [] = ⊥
AreSaid D date number (bytes ∷ frames) (its_note ∷ notes) =
    IsSaid D date number bytes (is_some its_note) × AreSaid D date (number + 1) frames notes

module _ {Note : Type 0} (D : ℕ → Type 0) (date : List ℕ) where
  pub said_more : (number : ℕ) (xs ys : List (List ℕ)) (notes more : List (Option Note))
      → AreSaid D date number xs notes → AreSaid D date (number + length xs) ys more
      → AreSaid D date number (xs ++ ys) (notes ++ more)
  said_more number [] ys [] more said then =
      let same : number + 0 ≡ number = omega arith in
      subst (λ (n : ℕ). AreSaid D date n ys more) same then
  said_more number [] ys (its_note ∷ notes) more said then = absurd said
  said_more number (x ∷ xs) ys [] more said then = absurd said
  said_more number (x ∷ xs) ys (its_note ∷ notes) more said then =
      let same : number + (length (x ∷ xs)) ≡ number + 1 + length xs = omega arith in (
        said.0,
        said_more (number + 1) xs ys notes more said.1
            (subst (λ (n : ℕ). AreSaid D date n ys more) same then),
      )

  module _ (dated : IsDate date) where
    told_so : (its_note : Option Note) (told : Option Field) → IsToldBeside its_note told
        → IsTold told × IsBrief told
    told_so None told beside =
        subst (λ (o : Option Field). IsTold o × IsBrief o) (sym beside) (tt, tt)
    told_so (Some its_note) told beside = beside

    carried : (number : ℕ) (bytes : List ℕ) (its_note : Option Note) (told : Option Field)
        → IsSaid D date number bytes (is_some its_note) → IsToldBeside its_note told
        → CanBeCarried bytes number told
    carried number bytes its_note told said beside =
        let head = said.head in
        let message = said.message in
        let day : IsDate head.date = subst IsDate (sym said.date_is) dated in
        let is_told = told_so its_note told beside in
        record {
          message = venue_message head message;
          of_venue = record {
            frame = ap frame_of said.is ∙ frame_read D head message day said.named said.of_day
                said.given;
            number_is = ap decimal said.number_is;
          };
          typed = type_known message;
          told_is = is_told.0;
          plain = none_added its_note told (has_reason message) beside said.free
              (body_fields head.date message)
              (own_tags D head message day said.named said.of_day said.given);
          fits = λ reference.
              fits_the_wire D head message day said.named said.of_day said.given reference told
              is_told.1;
        }

    pub all_carried : (number : ℕ) (frames : List (List ℕ)) (notes : List (Option Note))
        (tolds : List (Option Field)) → AreSaid D date number frames notes
        → AreToldBeside notes tolds → CanAllBeCarried number frames tolds
    all_carried number frames notes [] said beside = tt
    all_carried number [] [] (told ∷ tolds) said beside = absurd beside
    all_carried number [] (its_note ∷ notes) (told ∷ tolds) said beside = absurd said
    all_carried number (bytes ∷ frames) [] (told ∷ tolds) said beside = absurd said
    all_carried number (bytes ∷ frames) (its_note ∷ notes) (told ∷ tolds) said beside = (
      carried number bytes its_note told said.0 beside.0,
      all_carried (number + 1) frames notes tolds said.1 beside.1,
    )
