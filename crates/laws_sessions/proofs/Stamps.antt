-- What leaves of what is kept: all but the session's own fields of the header.
use Rattle.std.proofs.Common.{◌≡◌, ℕ, Bool, true, false, not, List, [], ◌∷◌, ◌++◌, refl, ap, if◌then◌else◌}
use Rattle.std.proofs.lemmas.Bool.{false≢true}
use Rattle.fix_fields.specs.Frame.{Field}
use Rattle.fix_sessions.specs.Written.{behind_type, body_of, copy_mark, kept_fields, said_fields, type_in}
use Rattle.fix_sessions.specs.declared.texts.Names.{Names}
use Rattle.fix_sessions.specs.declared.turns.Said.{Said}
use Rattle.fix_sessions.specs.declared.turns.Way.{Way}
use Rattle.fix_sessions.specs.declared.turns.Word.{Word}
use Rattle.fix_sessions.specs.declared.turns.Word.TheVariants as word
use Rattle.laws_sessions.specs.Stamps.{after_header, is_of_header, is_of_kept, leads_body, without_header}

not_of : (b : Bool) → not b ≡ true → b ≡ false
not_of true h = absurd (false≢true h)
not_of false h = refl

body_stays : (fields : List Field) → leads_body fields ≡ true → after_header fields ≡ fields
body_stays [] h = refl
body_stays (field ∷ fields) h =
    ap (λ b. if b then after_header fields else field ∷ fields) (not_of (is_of_header field.0) h)

-- a mark of a copy is of the header
behind_mark : (is_copy : Bool) (fields : List Field) → leads_body fields ≡ true
    → after_header (copy_mark is_copy ++ fields) ≡ fields
behind_mark true fields h = body_stays fields h
behind_mark false fields h = body_stays fields h

by_word : (names : Names) (date : List ℕ) (moment number : ℕ) (way : Way) (w : Word)
    → is_of_kept w ≡ true → leads_body (body_of w) ≡ true
    → without_header (said_fields names date moment (record { number = number; way = way; word = w }))
    ≡ kept_fields w
by_word names date moment number way (word.Kept body is_copy) is leads =
    ap (λ fields. (35, type_in body) ∷ fields) (behind_mark is_copy (behind_type body) leads)
by_word names date moment number way (word.Again body is_copy first) is leads =
    ap (λ fields. (35, type_in body) ∷ fields) (behind_mark is_copy (behind_type body) leads)
by_word names date moment number way (word.Logon seconds resets expects) is leads = absurd (false≢true is)
by_word names date moment number way word.Heartbeat is leads = absurd (false≢true is)
by_word names date moment number way (word.Answer id) is leads = absurd (false≢true is)
by_word names date moment number way (word.TestRequest id) is leads = absurd (false≢true is)
by_word names date moment number way (word.ResendRequest first) is leads = absurd (false≢true is)
by_word names date moment number way (word.Reject name kind fault) is leads = absurd (false≢true is)
by_word names date moment number way (word.Denied name kind denial) is leads = absurd (false≢true is)
by_word names date moment number way (word.Fill next) is leads = absurd (false≢true is)
by_word names date moment number way (word.Logout why) is leads = absurd (false≢true is)
by_word names date moment number way (word.LogoutFor text) is leads = absurd (false≢true is)
by_word names date moment number way (word.Foreign version) is leads = absurd (false≢true is)

pub header_alone : (names : Names) (date : List ℕ) (moment : ℕ) (said : Said)
    → is_of_kept said.word ≡ true → leads_body (body_of said.word) ≡ true
    → without_header (said_fields names date moment said) ≡ kept_fields said.word
header_alone names date moment said is leads =
    by_word names date moment said.number said.way said.word is leads
