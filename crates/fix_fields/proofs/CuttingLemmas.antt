-- Streams that are cut: byte by byte, by blocks of bytes, and by pieces.
use Rattle.std.proofs.Common.{◌≡◌, ℕ, ◌+◌, ◌<◌, ◌≤◌, List, [], ◌∷◌, ◌++◌, length, sym, ap, ◌∙◌}
use Rattle.std.proofs.Common.{subst, refl, arith, inl, inr, zero, suc, append_assoc, length-append}
use Rattle.std.proofs.Common.{Result, Ok, Err}
use Rattle.std.specs.Prelude.{fold}
use Rattle.std.specs.List.{AllByRecursion, concat}
use Rattle.std.proofs.lemmas.List.{append-nil, nil_from_length}
use Rattle.std.proofs.lemmas.List.Sums.{fold-append}
use Rattle.fix_fields.specs.declared.fault.StreamFault.{StreamFault}
use Rattle.fix_fields.specs.Frame.{Field, IsFrame, fields_text}
use Rattle.fix_fields.specs.Envelope.{IsEnvelope, BeginsWithEnvelope, IsStreamFault, Cutting}
use Rattle.fix_fields.specs.Envelope.{Stands, IsCutting, Front, front_of, front_in_start, taken}
use Rattle.fix_fields.specs.Envelope.{with_byte, cut_behind, uncut, envelopes_of}
use Rattle.fix_fields.specs.Envelope.{envelopes_of_pieces}
use Rattle.fix_fields.specs.Scan.{cutting, cut_on}
use Rattle.fix_fields.specs.Envelope.Front.{Begun, Whole, Faulty}
use Rattle.fix_fields.proofs.FrontFacts.{HasWhole, cases_Front, has_fault, has_whole}
use Rattle.fix_fields.proofs.FrontLemmas.{front_fault, front_whole, front_more_faulty}
use Rattle.fix_fields.proofs.FrontLemmas.{front_more_whole, envelope_len}

one_more : (rest : List ℕ) (byte : ℕ) (bytes : List ℕ) → rest ++ (byte ∷ bytes) ≡ (rest ++ (byte ∷ [])) ++ bytes
one_more rest byte bytes = sym (append_assoc rest (byte ∷ []) bytes)

-- where bytes are begun, so were they a byte ago
pub begun_before : (bytes more : List ℕ) → front_of (bytes ++ more) ≡ Begun → front_of bytes ≡ Begun
begun_before bytes more is = go (front_of bytes) refl where
  go : (v : Front) → front_of bytes ≡ v → front_of bytes ≡ Begun
  go Begun e = e
  go (Whole n) e = absurd (let other = front_more_whole bytes more n e in cc)
  go (Faulty fault) e = absurd (let other = front_more_faulty bytes more fault e in cc)

-- bytes that stay begun
pub cut_begun : (bytes rest : List ℕ) (messages : List (List ℕ)) → front_of (rest ++ bytes) ≡ Begun
    → cut_on messages (Ok rest) bytes ≡ cutting messages (Ok (rest ++ bytes))
cut_begun [] rest messages is = ap (λ t. cutting messages (Ok t)) (sym (append-nil rest))
cut_begun (byte ∷ bytes) rest messages is =
    let now = rest ++ (byte ∷ []) in
    let all : front_of (now ++ bytes) ≡ Begun = ap front_of (sym (one_more rest byte bytes)) ∙ is in
    let begun : front_of now ≡ Begun = begun_before now bytes all in
    ap (λ v. fold with_byte (taken messages now v) bytes) begun
    ∙ (cut_begun bytes now messages all ∙ ap (λ t. cutting messages (Ok t)) (sym (one_more rest byte bytes)))

-- a fault stands for ever
pub cut_stands : (bytes : List ℕ) (messages : List (List ℕ)) (fault : StreamFault)
    → cut_on messages (Err fault) bytes ≡ cutting messages (Err fault)
cut_stands [] messages fault = refl
cut_stands (byte ∷ bytes) messages fault = cut_stands bytes messages fault

-- bytes of which some show a fault
pub cut_faulty : (bytes rest : List ℕ) (messages : List (List ℕ)) (fault : StreamFault) → front_of rest ≡ Begun
    → front_of (rest ++ bytes) ≡ Faulty fault → cut_on messages (Ok rest) bytes ≡ cutting messages (Err fault)
cut_faulty [] rest messages fault begun is =
    absurd (let same : front_of rest ≡ Faulty fault = ap front_of (sym (append-nil rest)) ∙ is in cc)
cut_faulty (byte ∷ bytes) rest messages fault begun is =
    let now = rest ++ (byte ∷ []) in
    let all : front_of (now ++ bytes) ≡ Faulty fault = ap front_of (sym (one_more rest byte bytes)) ∙ is in
    elim (cases_Front (front_of now)) [
      | inl more ↦ ap (λ v. fold with_byte (taken messages now v) bytes) more ∙ cut_faulty bytes now messages fault more all
      | inr told ↦ elim told [
        | inl whole ↦ absurd (let other = front_more_whole now bytes whole.0 whole.1 in cc)
        | inr found ↦
            (let same : Faulty found.0 ≡ Faulty fault = sym (front_more_faulty now bytes found.0 found.1) ∙ all in
            let own : found.0 ≡ fault = cc in
            ap (λ v. fold with_byte (taken messages now v) bytes) found.1
            ∙ (cut_stands bytes messages found.0 ∙ ap (λ f. cutting messages (Err f)) own))
      ]
    ]

-- bytes that end a message
pub cut_whole : (bytes rest : List ℕ) (messages : List (List ℕ)) (n : ℕ) → front_of rest ≡ Begun
    → front_of (rest ++ bytes) ≡ Whole n → n ≡ length (rest ++ bytes)
    → cut_on messages (Ok rest) bytes ≡ cutting (messages ++ ((rest ++ bytes) ∷ [])) (Ok [])
cut_whole [] rest messages n begun is long =
    absurd (let same : front_of rest ≡ Whole n = ap front_of (sym (append-nil rest)) ∙ is in cc)
cut_whole (byte ∷ bytes) rest messages n begun is long =
    let now = rest ++ (byte ∷ []) in
    let split = one_more rest byte bytes in
    let all : front_of (now ++ bytes) ≡ Whole n = ap front_of (sym split) ∙ is in
    elim (cases_Front (front_of now)) [
      | inl more ↦
          ap (λ v. fold with_byte (taken messages now v) bytes) more
          ∙ (cut_whole bytes now messages n more all (long ∙ ap length split) ∙ ap (λ t. cutting (messages ++ (t ∷ [])) (Ok [])) (sym split))
      | inr told ↦ elim told [
        | inl whole ↦
            (let same : Whole whole.0 ≡ Whole n = sym (front_more_whole now bytes whole.0 whole.1) ∙ all in
            let own : whole.0 ≡ n = cc in
            let has = has_whole now whole.0 whole.1 in
            let none : length bytes ≡ 0 =
            omega (arith, ap length split, length-append now bytes, ap length has.text, length-append has.message has.behind, has.long) in
            let last : bytes ≡ [] = nil_from_length bytes none in
            let own_text : now ≡ rest ++ (byte ∷ bytes) = ap (λ t. rest ++ (byte ∷ t)) (sym last) in
            ap (λ v. fold with_byte (taken messages now v) bytes) whole.1
            ∙ (ap (λ t. fold with_byte (cutting (messages ++ (now ∷ [])) (Ok [])) t) last
            ∙ ap (λ t. cutting (messages ++ (t ∷ [])) (Ok [])) own_text))
        | inr found ↦ absurd (let other = front_more_faulty now bytes found.0 found.1 in cc)
      ]
    ]

-- messages that were cut before stay before the others
taken_behind : (before messages : List (List ℕ)) (bytes : List ℕ) (v : Front)
    → taken (before ++ messages) bytes v ≡ cutting (before ++ (taken messages bytes v).messages) ((taken messages bytes v).rest)
taken_behind before messages bytes Begun = refl
taken_behind before messages bytes (Whole n) = ap (λ ms. cutting ms (Ok [])) (append_assoc before messages (bytes ∷ []))
taken_behind before messages bytes (Faulty fault) = refl

pub cut_on_behind : (bytes : List ℕ) (before messages : List (List ℕ)) (rest : Result (List ℕ) StreamFault)
    → cut_on (before ++ messages) rest bytes ≡ cutting (before ++ (cut_on messages rest bytes).messages) ((cut_on messages rest bytes).rest)
cut_on_behind [] before messages rest = refl
cut_on_behind (byte ∷ bytes) before messages (Err fault) = cut_on_behind bytes before messages (Err fault)
cut_on_behind (byte ∷ bytes) before messages (Ok rest) =
    let now = rest ++ (byte ∷ []) in
    let one = taken messages now (front_of now) in
    ap (λ c. fold with_byte c bytes) (taken_behind before messages now (front_of now))
    ∙ cut_on_behind bytes before one.messages one.rest

-- nothing is begun
pub front_none : front_of [] ≡ Begun
unfolding front_of front_in_start
front_none = refl

-- whole messages are cut as they are
pub cut_envelopes : (more messages : List (List ℕ)) → AllByRecursion IsEnvelope more
    → cut_on messages (Ok []) (concat more) ≡ cutting (messages ++ more) (Ok [])
cut_envelopes [] messages all = ap (λ ms. cutting ms (Ok [])) (sym (append-nil messages))
cut_envelopes (message ∷ more) messages all =
    let one : front_of message ≡ Whole (length message) =
    ap front_of (sym (append-nil message)) ∙ front_whole message [] all.0 in
    fold-append with_byte (cutting messages (Ok [])) message (concat more)
    ∙ (ap (λ c. fold with_byte c (concat more)) (cut_whole message [] messages (length message) front_none one refl)
    ∙ (cut_envelopes more (messages ++ (message ∷ [])) all.1 ∙ ap (λ ms. cutting ms (Ok [])) (append_assoc messages (message ∷ []) more)))

-- what stands behind the messages
pub is_begun : (behind : List ℕ) → front_of behind ≡ Begun → (¬ BeginsWithEnvelope behind) × ((fault : StreamFault) → ¬ IsStreamFault fault behind)
is_begun behind begun = (
  λ begins. (let other = front_whole begins.message begins.behind begins.envelope in let same = ap front_of begins.text in absurd (cc)),
  λ fault is. (let other = front_fault fault behind is in absurd (cc)),
)

behind_is : (behind : List ℕ) (messages : List (List ℕ)) (rest : Result (List ℕ) StreamFault) → ¬ BeginsWithEnvelope behind → Stands rest behind
    → cut_on messages (Ok []) behind ≡ cutting messages rest
behind_is behind messages (Ok kept) none stands =
    elim (cases_Front (front_of behind)) [
      | inl begun ↦ cut_begun behind [] messages begun ∙ ap (λ t. cutting messages (Ok t)) (sym stands.0)
      | inr told ↦ elim told [
        | inl whole ↦
            (let has = has_whole behind whole.0 whole.1 in
            absurd (none (record { message = has.message; behind = has.behind; envelope = has.envelope; text = has.text })))
        | inr found ↦ absurd (stands.1 found.0 (has_fault behind found.0 found.1))
      ]
    ]
behind_is behind messages (Err fault) none stands = cut_faulty behind [] messages fault front_none (front_fault fault behind stands)

pub cutting_is : (stream : List ℕ) (cut : Cutting) → IsCutting stream cut → envelopes_of stream ≡ cut
unfolding envelopes_of cut_behind
cutting_is stream cut is =
    rw is.text (fold-append with_byte uncut (concat cut.messages) is.behind
    ∙ (ap (λ c. fold with_byte c is.behind) (cut_envelopes cut.messages [] is.envelopes)
    ∙ behind_is is.behind cut.messages cut.rest is.no_message is.stands))

-- each stream is cut in some way
cut_of_message : (stream : List ℕ) (n : ℕ) (has : HasWhole n stream) → (cut : Cutting) × IsCutting has.behind cut
    → (cut : Cutting) × IsCutting stream cut
cut_of_message stream n has more =
    let cut = more.0 in
    let is = more.1 in (
      cutting (has.message ∷ cut.messages) cut.rest,
      record {
        envelopes = (has.envelope, is.envelopes);
        behind = is.behind;
        text = has.text ∙ (ap (λ t. has.message ++ t) is.text ∙ sym (append_assoc has.message (concat cut.messages) is.behind));
        no_message = is.no_message;
        stands = is.stands;
      },
    )

cut_of_fault : (stream : List ℕ) (fault : StreamFault) → front_of stream ≡ Faulty fault → (cut : Cutting) × IsCutting stream cut
cut_of_fault stream fault is = (
  cutting [] (Err fault),
  record {
    envelopes = tt;
    behind = stream;
    text = refl;
    no_message = λ begins. absurd (let other = front_whole begins.message begins.behind begins.envelope in let same = ap front_of begins.text in cc);
    stands = has_fault stream fault is;
  },
)

cut_of_begun : (stream : List ℕ) → front_of stream ≡ Begun → (cut : Cutting) × IsCutting stream cut
cut_of_begun stream is =
    let none = is_begun stream is in
    (cutting [] (Ok stream), record { envelopes = tt; behind = stream; text = refl; no_message = none.0; stands = (refl, none.1) })

-- a message has some bytes
pub some_message : (bytes : List ℕ) (n : ℕ) (has : HasWhole n bytes) → (0 < n) × (n + length has.behind ≡ length bytes)
some_message bytes n has =
    let long = has.long in
    let size = envelope_len has.message has.envelope in
    (omega arith, omega (arith, ap length has.text, length-append has.message has.behind))

cut_somehow : (fuel : ℕ) (stream : List ℕ) → length stream ≤ fuel → (cut : Cutting) × IsCutting stream cut
cut_somehow zero stream few =
    cut_of_begun stream (ap front_of (nil_from_length stream (omega arith)) ∙ front_none)
cut_somehow (suc fuel) stream few =
    elim (cases_Front (front_of stream)) [
      | inl begun ↦ cut_of_begun stream begun
      | inr told ↦ elim told [
        | inl whole ↦
            (let has = has_whole stream whole.0 whole.1 in
            let some = some_message stream whole.0 has in
            cut_of_message stream whole.0 has (cut_somehow fuel has.behind (omega arith)))
        | inr found ↦ cut_of_fault stream found.0 found.1
      ]
    ]

pub is_cutting : (stream : List ℕ) (cut : Cutting) → envelopes_of stream ≡ cut → IsCutting stream cut
is_cutting stream cut is =
    let some = cut_somehow (length stream) stream (omega arith) in
    subst (λ c. IsCutting stream c) (sym (cutting_is stream some.0 some.1) ∙ is) some.1

-- pieces
pub cut_pieces : (pieces : List (List ℕ)) (cut : Cutting) → envelopes_of_pieces cut pieces ≡ cut_on cut.messages cut.rest (concat pieces)
unfolding envelopes_of_pieces cut_behind
cut_pieces [] cut = refl
cut_pieces (piece ∷ pieces) cut =
    let now = cut_on [] cut.rest piece in
    let one : cut_on cut.messages cut.rest piece ≡ cutting (cut.messages ++ now.messages) now.rest =
    ap (λ ms. cut_on ms cut.rest piece) (sym (append-nil cut.messages)) ∙ cut_on_behind piece cut.messages [] cut.rest in
    cut_pieces pieces (cutting (cut.messages ++ now.messages) now.rest)
    ∙ (ap (λ c. fold with_byte c (concat pieces)) (sym one) ∙ sym (fold-append with_byte cut piece (concat pieces)))

pub one_piece_more : (stream piece : List ℕ) → envelopes_of (stream ++ piece)
    ≡ cutting ((envelopes_of stream).messages ++ (cut_behind ((envelopes_of stream).rest) piece).messages) ((cut_behind ((envelopes_of stream).rest) piece).rest)
unfolding envelopes_of cut_behind
one_piece_more stream piece =
    let before = cut_on [] (Ok []) stream in
    fold-append with_byte uncut stream piece
    ∙ (ap (λ ms. cut_on ms before.rest piece) (sym (append-nil before.messages)) ∙ cut_on_behind piece before.messages [] before.rest)

-- a frame is cut
pub frame_is_envelope : (bytes : List ℕ) (fields : List Field) → IsFrame bytes fields → IsEnvelope bytes
frame_is_envelope bytes fields is = record {
  length_digits = is.length_digits;
  body = fields_text fields;
  sum_digits = is.sum_digits;
  length_is = is.length_is;
  sum_is = is.sum_is;
  text = is.text;
  fits = is.fits;
}
