use Rattle.std.proofs.Common.{rules, ◌≡◌, sym, subst}
use Rattle.std.specs.Prelude.{MatchOption}
use Rattle.fix_fields.specs.Frame.{frame_of}
use Rattle.fix_fields_c.specs.Found.{field_at, place_code, StandsAt}
use Rattle.fix_fields_c.proofs.PlaceLemmas.{stands_there}
use Rattle.fix_fields_c.proofs.fix_fields_value_at.Goals as goal

pub returns-in-Some-next-clause-there : goal.returns-in-Some-next-clause-there
returns-in-Some-next-clause-there c =
    let bytes = c.args.bytes.now in
    let found = field_at c.args.n (frame_of bytes) in
    let result = c.saturating_sub-in-Some-next-2.result in
    let exact : result ≡ place_code bytes found = search rules in
    subst (λ r. MatchOption found (r ≡ 0) (λ placed. StandsAt bytes placed.field.1 r)) (sym exact)
    (stands_there bytes c.args.n)
