-- Closing notices that are put under their rooms one after the other.
use Rattle.std.proofs.Common.{◌≡◌, refl, ◌∙◌, sym, ap, ℕ, ◌+◌, Bool, true, false, ◌&&◌, ◌||◌, ◌==◌}
use Rattle.std.proofs.Common.{cond, if◌then◌else◌, List, [], ◌∷◌, count_by, Option, Some, None}
use Rattle.std.proofs.Common.{arith}
use Rattle.std.proofs.lemmas.Bool.Decides.{nat_tests}
use Rattle.std.proofs.lemmas.List.Sums.{sum_by-cons}
use Rattle.std.specs.List.{list_any}
use Rattle.std.proofs.Math.Bool.{or-false}
use Rattle.market_terms.specs.Codes.{close_code}
use Rattle.market_terms.specs.declared.closes.Close.{Close}
use Rattle.market_terms.specs.declared.rooms.RoomRef.{RoomRef}
use Rattle.day_checks.specs.DayChecks.{is_of, is_told_once, says}
use Rattle.day_checks.specs.ToldRooms.{is_once_with, told_after, told_more}
use Rattle.day_checks.specs.declared.notices.Notice.{Notice}
use Rattle.day_checks.specs.declared.told_rooms.Told.{Told}
use Rattle.day_checks.specs.declared.told_rooms.Told.TheVariants as told

-- how many notices are of a room, the first one apart
counted : (room : RoomRef) (notice : Notice) (later : List Notice)
    → count_by (is_of room) (notice ∷ later)
    ≡ cond (is_of room notice) 1 0 + count_by (is_of room) later
counted room notice later = sum_by-cons (λ (n : Notice). cond (is_of room n) 1 0) notice later

-- where something is counted 0 times, no first one is it and says it
pub none_behind : (c : ℕ) (code any of : Bool) → cond of 1 0 + c ≡ 0 → (c ≡ 0 → any ≡ false)
    → ((of && code) || any) ≡ false
none_behind c code any true none rest =
    let no : ⊥ = omega (arith, none) in absurd no
none_behind c code any false none rest = rest (omega (arith, none))

-- of notices none of which is of a room, none says anything of it
none_says : (room : RoomRef) (close : Close) (notices : List Notice)
    → count_by (is_of room) notices ≡ 0 → list_any (says room close) notices ≡ false
none_says room close [] none = refl
none_says room close (notice ∷ later) none =
    none_behind (count_by (is_of room) later) (close_code notice.close == close_code close)
    (list_any (says room close) later) (is_of room notice) (sym (counted room notice later) ∙ none)
    (none_says room close later)

-- the first one of a room
pub first_told : (c : ℕ) (code any : Bool) → (c ≡ 0 → any ≡ false) → (b : Bool) → (c == 0) ≡ b
    → ((c == 0) && code) ≡ ((1 + c == 1) && (code || any))
first_told c code any none true is =
    let zero : c ≡ 0 = grind (arith, nat_tests, is) in
    let one : (1 + c == 1) ≡ true = grind (arith, nat_tests, zero) in
    ap (λ b. b && code) is ∙ sym (or-false code) ∙ sym (ap (λ a. code || a) (none zero))
    ∙ sym (ap (λ b. b && (code || any)) one)
first_told c code any none false is =
    let more : (1 + c == 1) ≡ false = grind (arith, nat_tests, is) in
    ap (λ b. b && code) is ∙ sym (ap (λ b. b && (code || any)) more)

-- a notice of a room of which none was told
first_here : (notice : Notice) (later : List Notice) (room : RoomRef) (close : Close) (of : Bool)
    → is_of room notice ≡ of
    → is_once_with (if of then Some (told_more None notice.close) else None) later room close
    ≡ is_told_once (notice ∷ later) room close
first_here notice later room close true is =
    let c = count_by (is_of room) later in
    let code = close_code notice.close == close_code close in
    let any = list_any (says room close) later in
    first_told c code any (none_says room close later) (c == 0) refl
    ∙ sym (ap (λ of. (cond of 1 0 + c == 1) && ((of && code) || any)) is)
    ∙ sym (ap (λ n. (n == 1) && ((is_of room notice && code) || any)) (counted room notice later))
first_here notice later room close false is =
    let c = count_by (is_of room) later in
    let code = close_code notice.close == close_code close in
    let any = list_any (says room close) later in
    let same : c ≡ 0 + c = omega arith in
    ap (λ n. (n == 1) && any) same
    ∙ sym (ap (λ of. (cond of 1 0 + c == 1) && ((of && code) || any)) is)
    ∙ sym (ap (λ n. (n == 1) && ((is_of room notice && code) || any)) (counted room notice later))

-- a notice of a room of which one was told
second_here : (said : Close) (notice : Notice) (later : List Notice) (room : RoomRef)
    (close : Close) (of : Bool) → is_of room notice ≡ of
    → is_once_with (if of then Some (told_more (Some (told.Once said)) notice.close)
    else Some (told.Once said)) later room close
    ≡ is_once_with (Some (told.Once said)) (notice ∷ later) room close
second_here said notice later room close true is =
    let c = count_by (is_of room) later in
    let code = close_code said == close_code close in
    let no : (1 + c == 0) ≡ false = grind (arith, nat_tests) in
    sym (ap (λ b. b && code) no) ∙ sym (ap (λ of. (cond of 1 0 + c == 0) && code) is)
    ∙ sym (ap (λ n. (n == 0) && code) (counted room notice later))
second_here said notice later room close false is =
    let c = count_by (is_of room) later in
    let code = close_code said == close_code close in
    let same : c ≡ 0 + c = omega arith in
    ap (λ n. (n == 0) && code) same ∙ sym (ap (λ of. (cond of 1 0 + c == 0) && code) is)
    ∙ sym (ap (λ n. (n == 0) && code) (counted room notice later))

often_here : (notice : Notice) (later : List Notice) (room : RoomRef) (close : Close) (of : Bool)
    → is_once_with (if of then Some (told_more (Some told.Often) notice.close) else Some told.Often)
    later room close ≡ false
often_here notice later room close true = refl
often_here notice later room close false = refl

-- one notice is put under its room
pub once_more : (was : Option Told) (notice : Notice) (later : List Notice) (room : RoomRef)
    (close : Close) → is_once_with (told_after room notice was) later room close
    ≡ is_once_with was (notice ∷ later) room close
once_more None notice later room close =
    first_here notice later room close (is_of room notice) refl
once_more (Some (told.Once said)) notice later room close =
    second_here said notice later room close (is_of room notice) refl
once_more (Some told.Often) notice later room close =
    often_here notice later room close (is_of room notice)
