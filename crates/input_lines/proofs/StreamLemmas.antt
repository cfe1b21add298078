-- Streams that are fed piece by piece: a fault stands for ever.
use Rattle.std.proofs.Common.{◌≡◌, ℕ, List, [], ◌∷◌, ◌++◌, None, Some, Result, Ok, Err, refl, sym, ap, ◌∙◌}
use Rattle.std.specs.List.{concat}
use Rattle.fix_fields.specs.Envelope.{Cutting, IsCutting, Stands, cut_behind}
use Rattle.fix_fields.specs.declared.fault.StreamFault.{StreamFault}
use Rattle.input_lines.specs.StepReading.{messages_if, whole_cut, whole_if, whole_messages}

fault_stands : (fault : StreamFault) (piece : List ℕ) → cut_behind (Err fault) piece ≡ record { messages = []; rest = Err fault }
unfolding cut_behind
fault_stands fault [] = refl
fault_stands fault (byte ∷ piece) = fault_stands fault piece

nothing_more : (rest : Result (List ℕ) StreamFault) → (cut_behind rest []).rest ≡ rest
unfolding cut_behind
nothing_more rest = refl

pub rest_faulty : (before after : Result (List ℕ) StreamFault) (fault : StreamFault) (piece : List ℕ) → before ≡ Err fault → after ≡ before
    → after ≡ (cut_behind before piece).rest
rest_faulty before after fault piece is same = rw (same, is) (sym (ap (λ (cut : Cutting). cut.rest) (fault_stands fault piece)))

-- a fault stood before the piece
pub first_none : (before : Result (List ℕ) StreamFault) (piece : List ℕ) → None ≡ messages_if before (cut_behind before piece).messages
    → None ≡ whole_messages (cut_behind before piece)
first_none (Ok rest) piece is = cc
first_none (Err fault) piece is = sym (ap whole_messages (fault_stands fault piece))

-- what is left after two calls, the second one with the empty piece
pub rest_after : (before rest after : Result (List ℕ) StreamFault) (piece : List ℕ) → rest ≡ (cut_behind before piece).rest
    → after ≡ (cut_behind rest []).rest → after ≡ (cut_behind before piece).rest
rest_after before rest after piece at is = is ∙ nothing_more rest ∙ at

-- bytes that are cut without a fault: what stands behind the messages is the rest
found_by : (bytes behind at : List ℕ) (messages cut : List (List ℕ)) (rest : Result (List ℕ) StreamFault) → bytes ≡ concat cut ++ at → Stands rest at
    → Some messages ≡ messages_if rest cut → ((b : List ℕ) → bytes ≡ concat messages ++ b → behind ≡ b) → Some (messages, behind) ≡ whole_if rest cut
found_by bytes behind at messages cut (Ok kept) text stands some back =
    let same : messages ≡ cut = cc in
    let kept_is : behind ≡ kept = back at (text ∙ ap (λ l. concat l ++ at) (sym same)) ∙ sym stands.0 in
    ap (λ (l : List (List ℕ)). Some (l, behind)) same ∙ ap (λ (l : List ℕ). Some (cut, l)) kept_is
found_by bytes behind at messages cut (Err fault) text stands some back = cc

pub cut_found : (bytes behind : List ℕ) (messages : List (List ℕ)) (cut : Cutting) → IsCutting bytes cut → Some messages ≡ whole_messages cut
    → ((b : List ℕ) → bytes ≡ concat messages ++ b → behind ≡ b) → Some (messages, behind) ≡ whole_cut cut
cut_found bytes behind messages cut is some back = found_by bytes behind is.behind messages cut.messages cut.rest is.text is.stands some back

none_by : (messages : List (List ℕ)) (rest : Result (List ℕ) StreamFault) → None ≡ messages_if rest messages → None ≡ whole_if rest messages
none_by messages (Ok rest) none = cc
none_by messages (Err fault) none = refl

pub none_found : (cut : Cutting) → None ≡ whole_messages cut → None ≡ whole_cut cut
none_found cut none = none_by cut.messages cut.rest none
