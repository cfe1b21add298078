use Rattle.std.proofs.Common.{◌≡◌, sym, ap, ◌∙◌, List, ℕ}
use Rattle.std.specs.List.{concat}
use Rattle.fix_fields.specs.Envelope.{uncut, envelopes_of, cut_behind, envelopes_of_pieces}
use Rattle.fix_fields.proofs.CuttingLemmas.{cut_pieces, one_piece_more}
use Rattle.fix_fields.proofs.stream_laws.pieces_make_no_difference.Goals as goal

whole : (pieces : List (List ℕ)) → envelopes_of_pieces uncut pieces ≡ envelopes_of (concat pieces)
unfolding envelopes_of cut_behind
whole pieces = cut_pieces pieces uncut

pub returns-clause-more : goal.returns-clause-more
returns-clause-more c = λ stream piece. one_piece_more stream piece

pub returns-clause-whole : goal.returns-clause-whole
returns-clause-whole c = λ pieces. whole pieces

pub returns-clause-same : goal.returns-clause-same
returns-clause-same c = λ pieces others same. whole pieces ∙ (ap envelopes_of same ∙ sym (whole others))
