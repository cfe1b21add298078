use Rattle.std.proofs.Common.{◌≡◌, ◌-◌, ◌<◌, Some, length, take, drop, sym, ap, subst, arith}
use Rattle.std.proofs.lemmas.List.{take_rest, length-drop}
use Rattle.fix_fields.specs.Frame.{fields_of, frame_of}
use Rattle.fix_fields.specs.Scan.{IsBodyText}
use Rattle.fix_fields.proofs.PlaceLemmas.{place_of}
use Rattle.fix_fields.proofs.FrameParts.{has_body, behind_cut}
use Rattle.fix_fields.proofs.frames.known_frame.Goals as goal

pub slice_bounds-rest-count : goal.slice_bounds-rest-count
slice_bounds-rest-count c =
    let ended = (has_body c.args.bytes.now c.requires).ended in omega (arith, length-drop 13 c.args.bytes.now)

pub slice_bounds-rest-start : goal.slice_bounds-rest-start
slice_bounds-rest-start c =
    let ended = (has_body c.args.bytes.now c.requires).ended in omega (arith, length-drop 13 c.args.bytes.now)

pub len_before_soh-digits-requires : goal.len_before_soh-digits-requires
len_before_soh-digits-requires c =
    let bytes = c.args.bytes.now in
    subst (λ rest. place_of 1 rest < length rest) (sym (take_rest bytes 13)) (has_body bytes c.requires).ended

pub overflow_sub-end : goal.overflow_sub-end
overflow_sub-end c =
    let bytes = c.args.bytes.now in
    let rest = take (length bytes - 13) (drop 13 bytes) in
    let behind = behind_cut bytes rest c.len_before_soh-digits.result (take_rest bytes 13) c.len_before_soh-digits.ensures.place in
    let seven = (has_body bytes c.requires).seven in
    omega (arith, ap length behind)

pub invariant_of-result : goal.invariant_of-result
invariant_of-result c =
    let bytes = c.args.bytes.now in
    let rest = take (length bytes - 13) (drop 13 bytes) in
    let behind = behind_cut bytes rest c.len_before_soh-digits.result (take_rest bytes 13) c.len_before_soh-digits.ensures.place in
    subst (λ t. IsBodyText (take (length t - 7) t)) (sym behind) (has_body bytes c.requires).body

pub returns : goal.returns
returns c =
    let bytes = c.args.bytes.now in
    let rest = take (length bytes - 13) (drop 13 bytes) in
    let behind = behind_cut bytes rest c.len_before_soh-digits.result (take_rest bytes 13) c.len_before_soh-digits.ensures.place in
    subst (λ t. frame_of bytes ≡ Some (fields_of (take (length t - 7) t))) (sym behind) (has_body bytes c.requires).frame
