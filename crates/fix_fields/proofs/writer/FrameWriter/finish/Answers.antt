use Rattle.std.proofs.Common.{◌≡◌, List, ℕ, length, sym, ap, ◌∙◌, subst, arith}
use Rattle.std.proofs.lemmas.Result.{IfOk-weaker}
use Rattle.fix_fields.specs.Frame.{fields_of, frame_text, frame_of, IsFrame}
use Rattle.fix_fields.specs.Scan.{text_around}
use Rattle.fix_fields.proofs.WriterLemmas.{frame_text-body, is_frame_text}
use Rattle.fix_fields.proofs.FrameParts.{frame_of-frame}
use Rattle.fix_fields.proofs.writer.FrameWriter.finish.Goals as goal

text_is : (c : goal.After-drop-self-inside) (bytes : List ℕ) → bytes ≡ text_around c.as_slice.result.now → bytes ≡ frame_text c.args.self
text_is c bytes is =
    is ∙ (ap text_around c.as_slice.ensures.value ∙ (frame_text-body c.self.inside.body.items c.self.invariant ∙ ap frame_text c.self.view_is))

frame_is : (c : goal.After-drop-self-inside) → IsFrame (frame_text c.args.self) c.args.self
frame_is c =
    let fits = c.self.invariant.fits in
    subst (λ fields. IsFrame (frame_text fields) fields) c.self.view_is
    (is_frame_text (fields_of c.self.inside.body.items) c.self.invariant.body (omega (arith, ap length c.self.invariant.is)))

pub returns-clause-text : goal.returns-clause-text
returns-clause-text c = IfOk-weaker c.framed.result _ _ (λ v is. text_is c v.items is) c.framed.ensures

pub returns-clause-frame : goal.returns-clause-frame
returns-clause-frame c =
    IfOk-weaker c.framed.result _ _ (λ v is. subst (λ bytes. IsFrame bytes c.args.self) (sym (text_is c v.items is)) (frame_is c)) c.framed.ensures

pub returns-clause-read_back : goal.returns-clause-read_back
returns-clause-read_back c =
    IfOk-weaker c.framed.result _ _ (λ v is. ap frame_of (text_is c v.items is) ∙ frame_of-frame _ c.args.self (frame_is c)) c.framed.ensures
