use Rattle.std.proofs.Common.{◌≡◌, ◌++◌, ◌∷◌, [], ℕ, List, ap, ◌∙◌, append_assoc, codes, decimal}
use Rattle.fix_fields.specs.TimeOfDay.{time_text}
use Rattle.investor_texts.specs.WrittenText.{answered_line, quote_text, reply_text}
use Rattle.investor_texts.proofs.text_writing.push_answered.Goals as goal

-- a line of these parts, put together as the code writes it
parts_joined : (start word number space id reply time quote end : List ℕ)
    → start ++ word ++ number ++ space ++ id ++ space ++ reply ++ time ++ quote ++ end
    ≡ start ++ (word ++ number ++ (space ++ id) ++ (space ++ reply) ++ time ++ quote ++ end)
parts_joined start word number space id reply time quote end = simp append_assoc

pub returns : goal.returns
unfolding answered_line
returns c =
    let response = c.args.response.now in
    let reply = reply_text c.args.reply in
    let time = 32 ∷ time_text c.args.moment in
    let quote = quote_text response.k in
    c.in_ok-push_reply.ensures
    ∙ ap (λ (t : List ℕ). t ++ reply ++ time ++ quote ++ 10 ∷ [])
    (c.in_ok-push-2.ensures.items
    ∙ ap (λ (t : List ℕ). t ++ 32 ∷ [])
    (c.in_ok-push_id.ensures
    ∙ ap (λ (t : List ℕ). t ++ response.id)
    (c.in_ok-push.ensures.items
    ∙ ap (λ (t : List ℕ). t ++ 32 ∷ [])
    (c.in_ok-push_number.ensures
    ∙ ap (λ (n : ℕ). c.extend_from_slice.new.self.items ++ decimal n) c.from.ensures
    ∙ ap (λ (t : List ℕ). t ++ decimal c.args.request) c.in_ok-extend_from_slice.ensures.items))))
    ∙ parts_joined c.args.text.now.items (codes "answered ") (decimal c.args.request) (32 ∷ [])
    response.id reply time quote (10 ∷ [])
