-- Pieces that are cut behind bytes that were kept.
use Rattle.std.proofs.Common.{◌≡◌, ℕ, ◌+◌, ◌-◌, ◌<◌, ◌≤◌, List, [], ◌∷◌, ◌++◌, length, take, drop}
use Rattle.std.proofs.Common.{sym, ap, ◌∙◌, subst, refl, arith, inl, inr, append_assoc}
use Rattle.std.proofs.Common.{length-append, Result, Ok, Err, Option, Some, None}
use Rattle.std.specs.Prelude.{fold, min}
use Rattle.std.proofs.lemmas.Bool.{cases_lt}
use Rattle.std.proofs.lemmas.List.{append-nil, take-append-drop, take-append-le, length-take}
use Rattle.std.proofs.lemmas.List.{take_all}
use Rattle.std.proofs.lemmas.List.Sums.{fold-append}
use Rattle.std.proofs.Math.Seq.{take-append_seam, take-append-add}
use Rattle.fix_fields.specs.declared.limits.TheConstants.{MOST_FRAME}
use Rattle.fix_fields.specs.declared.fault.StreamFault.{StreamFault}
use Rattle.fix_fields.specs.Scan.{cutting, cut_on, rest_of, WaitsFor, IsWhole, IsKept}
use Rattle.fix_fields.specs.Envelope.{front_of, with_byte, cut_behind}
use Rattle.fix_fields.specs.Envelope.Front.{Begun, Whole, Faulty}
use Rattle.fix_fields.proofs.FrontFacts.{has_whole, begun_short}
use Rattle.fix_fields.proofs.FrontLemmas.{front_more_whole, front_more_faulty, front_whole}
use Rattle.fix_fields.proofs.CuttingLemmas.{cut_begun, cut_faulty, cut_whole, front_none}
use Rattle.fix_fields.proofs.CuttingLemmas.{some_message}

-- of no bytes nothing can be told
pub waits_for_some : WaitsFor 0 []
waits_for_some = record { begun = front_none; short = omega arith; waits = λ more less. absurd (omega arith) }

-- bytes that end the message that begins with those kept
pub record EndsMessage (kept piece : List ℕ) (n : ℕ) : Type 0 where
  pub longer : length kept < n
  pub inside : n ≤ length (kept ++ piece)
  pub joined : take n (kept ++ piece) ≡ kept ++ take (n - length kept) piece
  pub whole : front_of (kept ++ take (n - length kept) piece) ≡ Whole n
  pub long : n ≡ length (kept ++ take (n - length kept) piece)

pub ends_message : (kept piece : List ℕ) (n : ℕ) → front_of kept ≡ Begun → front_of (kept ++ piece) ≡ Whole n → EndsMessage kept piece n
ends_message kept piece n begun is =
    let has = has_whole (kept ++ piece) n is in
    let some = some_message (kept ++ piece) n has in
    let text = has.text in
    let own : take n (kept ++ piece) ≡ has.message =
    ap (take n) text ∙ subst (λ k. take k (has.message ++ has.behind) ≡ has.message) has.long (take-append_seam has.message has.behind) in
    let longer : length kept < n =
    elim (cases_lt (length kept) n) [
      | inl less ↦ less
      | inr short ↦
          (let front : take n kept ≡ has.message = sym (take-append-le n kept piece short) ∙ own in
          let parts : kept ≡ has.message ++ drop n kept = sym (take-append-drop n kept) ∙ ap (λ t. t ++ drop n kept) front in
          let other : front_of kept ≡ Whole (length has.message) = ap front_of parts ∙ front_whole has.message (drop n kept) has.envelope in
          absurd (cc))
    ] in
    let k = n - length kept in
    let sum : n ≡ length kept + k = omega arith in
    let joined : take n (kept ++ piece) ≡ kept ++ take k piece = ap (λ m. take m (kept ++ piece)) sum ∙ take-append-add kept piece k in
    let message : kept ++ take k piece ≡ has.message = sym joined ∙ own in
    record {
      longer = longer;
      inside = omega arith;
      joined = joined;
      whole = ap front_of message ∙ (ap front_of (sym (append-nil has.message)) ∙ (front_whole has.message [] has.envelope ∙ ap Whole has.long));
      long = sym has.long ∙ ap length (sym message);
    }

pub cut_through : (kept piece : List ℕ) (messages : List (List ℕ)) (n : ℕ) → front_of kept ≡ Begun → front_of (kept ++ piece) ≡ Whole n
    → cut_on messages (Ok kept) piece ≡ cut_on (messages ++ (take n (kept ++ piece) ∷ [])) (Ok []) (drop (n - length kept) piece)
cut_through kept piece messages n begun is =
    let ends = ends_message kept piece n begun is in
    let k = n - length kept in
    ap (λ t. cut_on messages (Ok kept) t) (sym (take-append-drop k piece))
    ∙ (fold-append with_byte (cutting messages (Ok kept)) (take k piece) (drop k piece)
    ∙ (ap (λ c. fold with_byte c (drop k piece)) (cut_whole (take k piece) kept messages n begun ends.whole ends.long)
    ∙ ap (λ t. cut_on (messages ++ (t ∷ [])) (Ok []) (drop k piece)) (sym ends.joined)))

joined_more : (kept piece joined : List ℕ) (t : ℕ) → joined ≡ kept ++ take t piece → kept ++ piece ≡ joined ++ drop t piece
joined_more kept piece joined t is =
    ap (λ x. kept ++ x) (sym (take-append-drop t piece)) ∙ (sym (append_assoc kept (take t piece) (drop t piece)) ∙ ap (λ x. x ++ drop t piece) (sym is))

-- the same where the bytes kept were joined with some of the piece
pub record JoinsMessage (kept piece joined : List ℕ) (n : ℕ) : Type 0 where
  pub longer : length kept < n
  pub inside : n - length kept ≤ length piece
  pub cut : cut_on [] (Ok kept) piece ≡ cut_on (take n joined ∷ []) (Ok []) (drop (n - length kept) piece)

pub joins_message : (kept piece joined : List ℕ) (t n : ℕ) → joined ≡ kept ++ take t piece → front_of kept ≡ Begun → IsWhole n joined
    → JoinsMessage kept piece joined n
joins_message kept piece joined t n is begun message =
    let whole : front_of (kept ++ piece) ≡ Whole n =
    ap front_of (joined_more kept piece joined t is) ∙ front_more_whole joined (drop t piece) n message.whole in
    let ends = ends_message kept piece n begun whole in
    let longer = ends.longer in
    let inside = ends.inside in
    let same : take n (kept ++ piece) ≡ take n joined =
    ap (take n) (joined_more kept piece joined t is) ∙ take-append-le n joined (drop t piece) message.inside in
    record {
      longer = longer;
      inside = omega (arith, length-append kept piece);
      cut = cut_through kept piece [] n begun whole ∙ ap (λ m. cut_on (m ∷ []) (Ok []) (drop (n - length kept) piece)) same;
    }

pub message_joins : (kept piece : List ℕ) (t n : ℕ) {reserved joined read : List ℕ} → reserved ≡ kept → joined ≡ reserved ++ take t piece
    → front_of kept ≡ Begun → read ≡ joined → IsWhole n read → JoinsMessage kept piece joined n
message_joins kept piece t n {reserved} {joined} {read} same is begun own message =
    joins_message kept piece joined t n (is ∙ ap (λ k. k ++ take t piece) same) begun (subst (λ x. IsWhole n x) own message)

-- a fault in the bytes joined is one of the piece
pub joins_fault : (kept piece joined : List ℕ) (t : ℕ) (fault : StreamFault) → joined ≡ kept ++ take t piece → front_of kept ≡ Begun
    → front_of joined ≡ Faulty fault → cut_on [] (Ok kept) piece ≡ cutting [] (Err fault)
joins_fault kept piece joined t fault is begun faulty =
    cut_faulty piece kept [] fault begun
    (ap front_of (joined_more kept piece joined t is) ∙ front_more_faulty joined (drop t piece) fault faulty)

-- bytes that tell nothing yet are all of the piece
pub joins_begun : (kept piece joined : List ℕ) (t wait : ℕ) → joined ≡ kept ++ take t piece → t ≡ min (MOST_FRAME - length kept) (length piece)
    → WaitsFor wait joined → cut_on [] (Ok kept) piece ≡ cutting [] (Ok joined)
joins_begun kept piece joined t wait is most waits =
    let short = waits.short in
    let all : length piece ≤ t = omega (arith, ap length is, length-append kept (take t piece), length-take t piece) in
    let own : joined ≡ kept ++ piece = is ∙ ap (λ x. kept ++ x) (take_all t piece all) in
    cut_begun piece kept [] (ap front_of (sym own) ∙ waits.begun) ∙ ap (λ x. cutting [] (Ok x)) (sym own)

-- a piece that does not reach what is waited for
pub waits_on : (wait : ℕ) (kept piece : List ℕ) → WaitsFor wait kept → length (kept ++ piece) < wait → WaitsFor wait (kept ++ piece)
waits_on wait kept piece waits less =
    let begun = waits.waits piece less in
    record {
      begun = begun;
      short = begun_short (kept ++ piece) begun;
      waits = λ more fewer. (let parts = append_assoc kept piece more in
          ap front_of parts ∙ waits.waits (piece ++ more) (omega (arith, ap length parts)));
    }

-- messages at the front of bytes
pub cut_first : (bytes : List ℕ) (messages : List (List ℕ)) (n : ℕ) → IsWhole n bytes
    → cut_on messages (Ok []) bytes ≡ cut_on (messages ++ (take n bytes ∷ [])) (Ok []) (drop n bytes)
cut_first bytes messages n is =
    let all : n - 0 ≡ n = omega arith in
    cut_through [] bytes messages n front_none is.whole
    ∙ ap (λ k. cut_on (messages ++ (take n bytes ∷ [])) (Ok []) (drop k bytes)) all

-- what a splitter keeps while no fault stands
pub none_stands : (fault : Option StreamFault) (wait : ℕ) (kept : List ℕ) (value : Result (List ℕ) StreamFault) → fault ≡ None
    → rest_of fault kept ≡ value → IsKept fault wait kept → (value ≡ Ok kept) × WaitsFor wait kept
none_stands None wait kept value none view waits = (sym view, waits)
none_stands (Some fault) wait kept value none view waits = absurd (cc)

pub cut_waiting : (wait : ℕ) (kept piece : List ℕ) → WaitsFor wait kept → length (kept ++ piece) < wait
    → cut_behind (Ok kept) piece ≡ cutting [] (Ok (kept ++ piece))
unfolding cut_behind
cut_waiting wait kept piece waits less = cut_begun piece kept [] (waits.waits piece less)

pub cut_behind_is : (kept piece : List ℕ) → cut_behind (Ok kept) piece ≡ cut_on [] (Ok kept) piece
unfolding cut_behind
cut_behind_is kept piece = refl
