-- Timestamps: `moment_of` answers with the moment of one of its own day, and with the fault of any
-- other text.
use Rattle.std.proofs.Common.{◌≡◌, ◌≢◌, ℕ, ◌/◌, ◌%◌, ◌<◌, true, false, cond, List, ◌∷◌, ◌++◌}
use Rattle.std.proofs.Common.{length, take, drop, sym, ap, ◌∙◌, subst, refl, arith, inl, inr}
use Rattle.std.proofs.Common.{append_assoc, Result, Ok, Err}
use Rattle.std.specs.Bool.{Decides}
use Rattle.std.specs.Str.{bytes_eq}
use Rattle.std.proofs.lemmas.Bool.{cases_Bool, false_from_ne_true, false≢true}
use Rattle.std.proofs.lemmas.Bool.Decides.{Decides-eqb, Decides-and, Decides-or, Decides-ltb}
use Rattle.std.proofs.lemmas.List.{take-append-drop}
use Rattle.std.proofs.lemmas.Slice.Eq.{bytes_eq-Decides}
use Rattle.std.proofs.Math.Seq.{take-append_seam, drop-append_seam}
use Rattle.fix_fields.specs.Frame.{three_digits}
use Rattle.fix_fields.specs.UtcTimestamp.{IsDate, date_text, clock_text, seconds_text}
use Rattle.fix_fields.specs.UtcTimestamp.{timestamp_text, IsSpelling, UtcTimestamp, milliseconds_of}
use Rattle.fix_fields.specs.UtcTimestamp.{spells, moment_of}
use Rattle.fix_fields.specs.Clock.{IsClock}
use Rattle.fix_fields.specs.declared.fault.MomentFault.{MomentFault}
use Rattle.fix_fields.specs.declared.fault.MomentFault.TheVariants.{Form, OtherDay}
use Rattle.fix_fields.proofs.WriterLemmas.{three_digits_value}
use Rattle.fix_fields.proofs.DateLemmas.{two_digits_value, date_decides}

-- a text is its date and its time
pub clock_of : (day : List ℕ) (n : ℕ) (text : List ℕ) → UtcTimestamp day n text → (take 8 text ≡ day) × IsClock n (drop 8 text)
clock_of day n text is =
    let eight : length day ≡ 8 = ap length is.date_is.text in
    elim is.spelling [
      | inl long ↦
          (let time = 45 ∷ (clock_text n ++ (46 ∷ three_digits (n % 1000))) in
          let whole : text ≡ day ++ time = long ∙ append_assoc day (45 ∷ clock_text n) (46 ∷ three_digits (n % 1000)) in (
            rw whole (subst (λ k. take k (day ++ time) ≡ day) eight (take-append_seam day time)),
            record { moment = is.moment; spelling = inl (rw whole (subst (λ k. drop k (day ++ time) ≡ time) eight (drop-append_seam day time))) },
          ))
      | inr short ↦
          (let time = 45 ∷ clock_text n in (
            rw short.1 (subst (λ k. take k (day ++ time) ≡ day) eight (take-append_seam day time)),
            record { moment = is.moment; spelling = inr (short.0, rw short.1 (subst (λ k. drop k (day ++ time) ≡ time) eight (drop-append_seam day time))) },
          ))
    ]

pub timestamp_of : (text : List ℕ) (n : ℕ) → IsDate (take 8 text) → IsClock n (drop 8 text) → UtcTimestamp (take 8 text) n text
timestamp_of text n date clock =
    let whole = sym (take-append-drop 8 text) in
    record {
      date_is = date;
      moment = clock.moment;
      spelling = elim clock.spelling [
        | inl long ↦ inl (whole ∙ (ap (λ t. take 8 text ++ t) long ∙ sym (append_assoc (take 8 text) (45 ∷ clock_text n) (46 ∷ three_digits (n % 1000)))))
        | inr short ↦ inr (short.0, whole ∙ ap (λ t. take 8 text ++ t) short.1)
      ];
    }

spells_decides : (day : List ℕ) (n : ℕ) (text : List ℕ) → Decides (spells day n text) (UtcTimestamp day n text)
unfolding spells
spells_decides day n text =
    let tests : Decides (spells day n text) ((IsDate day × (n < 86400000)) × IsSpelling day n text) =
    Decides-and _ _ (Decides-and _ _ (date_decides day) (Decides-ltb n 86400000))
    (Decides-or _ _ (bytes_eq-Decides text (timestamp_text day n)) (Decides-and _ _ (Decides-eqb (n % 1000) 0) (bytes_eq-Decides text (seconds_text day n)))) in (
      λ t. (let p = tests.0 t in record { date_is = p.0.0; moment = p.0.1; spelling = p.1 }),
      λ is. tests.1 ((is.date_is, is.moment), is.spelling),
    )

-- the milliseconds of a spelling are its moment
milliseconds_of-date : (y m d n : ℕ) (text : List ℕ) → n < 86400000 → IsSpelling (date_text y m d) n text → milliseconds_of text ≡ n
unfolding milliseconds_of
milliseconds_of-date y m d n text below spelling =
    let h = two_digits_value (n / 3600000) (omega arith) in
    let mm = two_digits_value (n / 60000 % 60) (omega arith) in
    let s = two_digits_value (n / 1000 % 60) (omega arith) in
    let k = three_digits_value (n % 1000) (omega arith) in
    elim spelling [
      | inl long ↦ rw (long, h, mm, s, k) (omega arith)
      | inr short ↦ rw (short.1, h, mm, s) (let whole = short.0 in omega arith)
    ]

milliseconds_of-spelling : (day : List ℕ) (n : ℕ) (text : List ℕ) → UtcTimestamp day n text → milliseconds_of text ≡ n
milliseconds_of-spelling day n text is =
    milliseconds_of-date is.date_is.year is.date_is.month is.date_is.day n text is.moment (subst (λ t. IsSpelling t n text) is.date_is.text is.spelling)

-- a text is a spelling of one moment of one date
pub timestamp_once : (text day day' : List ℕ) (n n' : ℕ) → UtcTimestamp day n text → UtcTimestamp day' n' text → (day ≡ day') × (n ≡ n')
timestamp_once text day day' n n' is other = (
  sym (clock_of day n text is).0 ∙ (clock_of day' n' text other).0,
  sym (milliseconds_of-spelling day n text is) ∙ milliseconds_of-spelling day' n' text other,
)

pub moment_of-spelled : (date day : List ℕ) (n : ℕ) (text : List ℕ) → UtcTimestamp day n text
    → moment_of date text ≡ cond (bytes_eq day date) (Ok n) (Err OtherDay)
unfolding moment_of
moment_of-spelled date day n text is =
    let own = (clock_of day n text is).0 in
    let k = milliseconds_of-spelling day n text is in
    let test = (spells_decides day n text).1 is in
    rw (own, k, test) refl

pub moment_of-other : (date text : List ℕ) → ((day : List ℕ) (n : ℕ) → ¬ (UtcTimestamp day n text)) → moment_of date text ≡ Err Form
unfolding moment_of
moment_of-other date text none =
    elim (cases_Bool (spells (take 8 text) (milliseconds_of text) text)) [
      | inl test ↦ absurd (none _ _ ((spells_decides (take 8 text) (milliseconds_of text) text).0 test))
      | inr test ↦ rw test refl
    ]

pub moment_of-own : (date : List ℕ) (n : ℕ) (text : List ℕ) → UtcTimestamp date n text → moment_of date text ≡ Ok n
moment_of-own date n text is =
    let same : bytes_eq date date ≡ true = (bytes_eq-Decides date date).1 refl in
    moment_of-spelled date date n text is ∙ rw same refl

pub moment_of-other_day : (date day : List ℕ) (n : ℕ) (text : List ℕ) → day ≢ date → UtcTimestamp day n text → moment_of date text ≡ Err OtherDay
moment_of-other_day date day n text other is =
    let test : bytes_eq day date ≡ false = false_from_ne_true (bytes_eq day date) (λ t. other ((bytes_eq-Decides day date).0 t)) in
    moment_of-spelled date day n text is ∙ rw test refl

-- and nothing else is answered so
abbrev answered : ℕ → Result ℕ MomentFault
answered n = Ok n

abbrev refused : MomentFault → Result ℕ MomentFault
refused fault = Err fault

pub is_own : (date : List ℕ) (n : ℕ) (text : List ℕ) → moment_of date text ≡ Ok n → UtcTimestamp date n text
unfolding moment_of
is_own date n text is =
    let own = take 8 text in
    let k = milliseconds_of text in
    let inner = cond (bytes_eq own date) (Ok k) (Err OtherDay) in
    elim (cases_Bool (spells own k text)) [
      | inl test ↦
          (let chosen : cond (bytes_eq own date) (Ok k) (Err OtherDay) ≡ Ok n = subst (λ b. cond b inner (Err Form) ≡ Ok n) test is in
          elim (cases_Bool (bytes_eq own date)) [
            | inl same ↦
                (let found : answered k ≡ Ok n = subst (λ b. cond b (Ok k) (Err OtherDay) ≡ Ok n) same chosen in
                let moment : k ≡ n = cc in
                let day : own ≡ date = (bytes_eq-Decides own date).0 same in
                subst (λ d. UtcTimestamp d n text) day (subst (λ m. UtcTimestamp own m text) moment ((spells_decides own k text).0 test)))
            | inr other ↦
                (let wrong : refused OtherDay ≡ Ok n = subst (λ b. cond b (Ok k) (Err OtherDay) ≡ Ok n) other chosen in cc)
          ])
      | inr test ↦ (let wrong : refused Form ≡ Ok n = subst (λ b. cond b inner (Err Form) ≡ Ok n) test is in cc)
    ]

pub is_form : (date text : List ℕ) → moment_of date text ≡ Err Form → (day : List ℕ) (n : ℕ) → ¬ (UtcTimestamp day n text)
is_form date text is day n spelled =
    elim (cases_Bool (bytes_eq day date)) [
      | inl same ↦
          (let chosen : answered n ≡ Err Form =
          subst (λ b. cond b (Ok n) (Err OtherDay) ≡ Err Form) same (sym (moment_of-spelled date day n text spelled) ∙ is) in cc)
      | inr other ↦
          (let chosen : refused OtherDay ≡ Err Form =
          subst (λ b. cond b (Ok n) (Err OtherDay) ≡ Err Form) other (sym (moment_of-spelled date day n text spelled) ∙ is) in cc)
    ]

pub is_other_day : (date text : List ℕ) → moment_of date text ≡ Err OtherDay
    → (day : List ℕ) × (n : ℕ) × (day ≢ date) × UtcTimestamp day n text
is_other_day date text is =
    let own = take 8 text in
    let k = milliseconds_of text in
    elim (cases_Bool (spells own k text)) [
      | inl test ↦
          (let spelled = (spells_decides own k text).0 test in (
            own,
            k,
            (λ same. (let wrong : answered k ≡ Err OtherDay =
                sym (moment_of-own date k text (subst (λ d. UtcTimestamp d k text) same spelled)) ∙ is in cc)),
            spelled,
          ))
      | inr test ↦
          (let none : (day : List ℕ) (n : ℕ) → ¬ (UtcTimestamp day n text) = λ day n spelled.
          (let own_is = (clock_of day n text spelled).0 in
          let k_is = milliseconds_of-spelling day n text spelled in
          let again : UtcTimestamp own k text = subst (λ d. UtcTimestamp d k text) (sym own_is) (subst (λ m. UtcTimestamp day m text) (sym k_is) spelled) in
          false≢true (sym test ∙ (spells_decides own k text).1 again)) in
          let wrong : refused Form ≡ Err OtherDay = sym (moment_of-other date text none) ∙ is in cc)
    ]
