-- Lists one item at a time: firms with their days, and words behind spaces.
use Rattle.std.proofs.Common.{◌≡◌, ◌<◌, ◌≤◌, ℕ, ◌+◌, List, [], ◌∷◌, ◌++◌, length, map, take, zero}
use Rattle.std.proofs.Common.{suc, add-one, get_or, sym, subst, ap, ◌∙◌, refl, append_assoc, Option}
use Rattle.std.proofs.Common.{Some, None, Bool}
use Rattle.std.proofs.lemmas.List.{append-nil, length-append, length-map}
use Rattle.std.proofs.lemmas.Option.{slice_get-map, slice_get_past, slice_get_read}
use Rattle.std.proofs.lemmas.Grind.{flat_map-append}
use Rattle.venue_rows.specs.Rows.{Configuration, firm_names}
use Rattle.venue_rows.specs.declared.dealer_rows.DealerRow.{DealerRow}
use Rattle.venue_rows.specs.declared.investor_rows.InvestorRow.{InvestorRow}
use Rattle.std.specs.Prelude.{slice_get}
use Rattle.std.specs.List.{flat_map, zip, join_with_byte}
use Rattle.std.specs.Option.{option_map}
use Rattle.step_replay.specs.FirmDays.{FirmDay}
use Rattle.venue_text.specs.MessageLines.{line_of, messages_text}
use Rattle.venue_text.specs.ReplayText.{one_at, days_text, firm_text, list_text, sent_text}
use Rattle.venue_text.specs.DueCommand.{part_line}
use Rattle.venue_text.specs.DueCuts.{parts_behind}

pub take_suc : {A : Type 0} (xs : List A) (n : ℕ) → take (suc n) xs ≡ take n xs ++ one_at n xs
take_suc [] zero = refl
take_suc [] (suc n) = refl
take_suc (x ∷ xs) zero = refl
take_suc (x ∷ xs) (suc n) = ap (λ ys. x ∷ ys) (take_suc xs n)

-- one item more
pub take_more : {A : Type 0} (xs : List A) (n : ℕ) → take (n + 1) xs ≡ take n xs ++ one_at n xs
take_more xs n = ap (λ k. take k xs) (add-one n) ∙ take_suc xs n

-- pairs where both lists have an item, and none where one has ended
pub pair_at : {A B : Type 0} (xs : List A) (ys : List B) (n : ℕ) (x : A) (y : B)
    → slice_get xs n ≡ Some x → slice_get ys n ≡ Some y → one_at n (zip xs ys) ≡ (x, y) ∷ []
pair_at [] ys n x y one other = cc
pair_at (a ∷ xs) [] n x y one other = cc
pair_at (a ∷ xs) (b ∷ ys) zero x y one other = cc
pair_at (a ∷ xs) (b ∷ ys) (suc n) x y one other = pair_at xs ys n x y one other

pub ended_at : {A B : Type 0} (xs : List A) (ys : List B) (n : ℕ)
    → slice_get xs n ≡ None → one_at n (zip xs ys) ≡ []
ended_at [] ys zero ended = refl
ended_at [] ys (suc n) ended = refl
ended_at (a ∷ xs) [] zero ended = refl
ended_at (a ∷ xs) [] (suc n) ended = refl
ended_at (a ∷ xs) (b ∷ ys) zero ended = cc
ended_at (a ∷ xs) (b ∷ ys) (suc n) ended = ended_at xs ys n ended

pub other_ended_at : {A B : Type 0} (xs : List A) (ys : List B) (n : ℕ)
    → slice_get ys n ≡ None → one_at n (zip xs ys) ≡ []
other_ended_at [] ys zero ended = refl
other_ended_at [] ys (suc n) ended = refl
other_ended_at (a ∷ xs) [] zero ended = refl
other_ended_at (a ∷ xs) [] (suc n) ended = refl
other_ended_at (a ∷ xs) (b ∷ ys) zero ended = cc
other_ended_at (a ∷ xs) (b ∷ ys) (suc n) ended = other_ended_at xs ys n ended

-- the messages of the firm at a place
day_with : (day : Option FirmDay) (messages : List (List ℕ)) → Some messages ≡ option_map (λ (day : FirmDay). day.sent) day → (own : FirmDay) × (day ≡ Some own) × (own.sent ≡ messages)
day_with None messages is = cc
day_with (Some own) messages is = (own, refl, cc)

pub messages_at : (with_frames : Bool) (names : List (List ℕ)) (days : List FirmDay) (n : ℕ) (name : List ℕ) (messages : List (List ℕ))
    → Some name ≡ slice_get names n → Some messages ≡ option_map (λ (day : FirmDay). day.sent) (slice_get days n)
    → flat_map (firm_text with_frames) (one_at n (zip names days)) ≡ messages_text with_frames name messages
messages_at with_frames names days n name messages named sent =
    let found = day_with (slice_get days n) messages sent in
    let pair = pair_at names days n name found.0 (sym named) found.1 in
    ap (flat_map (firm_text with_frames)) pair
    ∙ append-nil (messages_text with_frames name found.0.sent)
    ∙ ap (messages_text with_frames name) found.2

pub messages_of_none : (with_frames : Bool) (names : List (List ℕ)) (days : List FirmDay) (n : ℕ)
    → None ≡ slice_get names n → flat_map (firm_text with_frames) (one_at n (zip names days)) ≡ []
messages_of_none with_frames names days n none = ap (flat_map (firm_text with_frames)) (ended_at names days n (sym none))

no_day : (day : Option FirmDay) → None ≡ option_map (λ (day : FirmDay). day.sent) day → day ≡ None
no_day None none = refl
no_day (Some day) none = cc

pub messages_of_no_day : (with_frames : Bool) (names : List (List ℕ)) (days : List FirmDay) (n : ℕ)
    → None ≡ option_map (λ (day : FirmDay). day.sent) (slice_get days n)
    → flat_map (firm_text with_frames) (one_at n (zip names days)) ≡ []
messages_of_no_day with_frames names days n none =
    ap (flat_map (firm_text with_frames)) (other_ended_at names days n (no_day (slice_get days n) none))

-- the same by what each firm was sent, as it is read at the place of the firm
pub list_at : {X : Type 0} (items : X → List (List ℕ)) (with_frames : Bool) (names : List (List ℕ)) (sent : List X) (n at : ℕ) (name : List ℕ) (messages : X)
    → at ≡ n → Some name ≡ slice_get names n → at < length sent → messages ≡ get_or sent at messages
    → flat_map (list_text with_frames) (one_at n (zip names (map items sent))) ≡ messages_text with_frames name (items messages)
list_at items with_frames names sent n at name messages same named within is =
    let here : slice_get sent n ≡ Some messages =
    subst (λ k. slice_get sent k ≡ Some messages) same (slice_get_read sent (length sent) at messages refl within is) in
    let there : slice_get (map items sent) n ≡ Some (items messages) = slice_get-map items sent n ∙ ap (option_map items) here in
    ap (flat_map (list_text with_frames)) (pair_at names (map items sent) n name (items messages) (sym named) there)
    ∙ append-nil (messages_text with_frames name (items messages))

pub list_of_none : (with_frames : Bool) (names : List (List ℕ)) (lists : List (List (List ℕ))) (n : ℕ)
    → None ≡ slice_get names n → flat_map (list_text with_frames) (one_at n (zip names lists)) ≡ []
list_of_none with_frames names lists n none = ap (flat_map (list_text with_frames)) (ended_at names lists n (sym none))

pub list_of_no_firm : {X : Type 0} (items : X → List (List ℕ)) (with_frames : Bool) (names : List (List ℕ)) (sent : List X) (n at : ℕ)
    → at ≡ n → length sent ≤ at → flat_map (list_text with_frames) (one_at n (zip names (map items sent))) ≡ []
list_of_no_firm items with_frames names sent n at same past =
    let none : slice_get sent n ≡ None = slice_get_past sent n (subst (λ k. length sent ≤ k) same past) in
    ap (flat_map (list_text with_frames))
    (other_ended_at names (map items sent) n (slice_get-map items sent n ∙ ap (option_map items) none))

-- a text in blocks, and one block more
pub block_more : {X : Type 0} (text : X → List ℕ) (before now : List X) (block : X) (value : List ℕ)
    → flat_map text before ≡ value → now ≡ before ++ block ∷ [] → flat_map text now ≡ value ++ text block
block_more text before now block value was is =
    ap (flat_map text) is ∙ flat_map-append text before (block ∷ [])
    ∙ ap (λ l. flat_map text before ++ l) (append-nil (text block)) ∙ ap (λ l. l ++ text block) was

-- messages in two parts, a line each
pub parts_text : (with_frames : Bool) (firm : List ℕ) (start all text now block : List ℕ) (rest front behind : List (List ℕ))
    → rest ≡ front ++ behind → text ++ messages_text with_frames firm rest ≡ start ++ all → now ≡ text ++ block
    → block ≡ messages_text with_frames firm front → now ++ messages_text with_frames firm behind ≡ start ++ all
parts_text with_frames firm start all text now block rest front behind parts is pushed made =
    ap (λ l. l ++ messages_text with_frames firm behind) (pushed ∙ ap (λ l. text ++ l) made)
    ∙ append_assoc text (messages_text with_frames firm front) (messages_text with_frames firm behind)
    ∙ ap (λ l. text ++ l) (sym (flat_map-append (line_of with_frames firm) front behind) ∙ ap (flat_map (line_of with_frames firm)) (sym parts))
    ∙ is

-- what `replay` prints by what each firm was sent is what it prints by their days
list_one : (with_frames : Bool) (n : ℕ) (names : List (List ℕ)) (days : List FirmDay)
    → flat_map (list_text with_frames) (one_at n (zip names (map (λ (day : FirmDay). day.sent) days)))
    ≡ flat_map (firm_text with_frames) (one_at n (zip names days))
list_one with_frames zero [] days = refl
list_one with_frames zero (name ∷ names) [] = refl
list_one with_frames zero (name ∷ names) (day ∷ days) = refl
list_one with_frames (suc n) [] days = refl
list_one with_frames (suc n) (name ∷ names) [] = refl
list_one with_frames (suc n) (name ∷ names) (day ∷ days) = list_one with_frames n names days

list_all : (with_frames : Bool) (names : List (List ℕ)) (days : List FirmDay)
    → flat_map (list_text with_frames) (zip names (map (λ (day : FirmDay). day.sent) days)) ≡ flat_map (firm_text with_frames) (zip names days)
list_all with_frames [] days = refl
list_all with_frames (name ∷ names) [] = refl
list_all with_frames (name ∷ names) (day ∷ days) = ap (λ l. messages_text with_frames name day.sent ++ l) (list_all with_frames names days)

lists_asked : (with_frames : Bool) (only : Option ℕ) (names : List (List ℕ)) (days : List FirmDay)
    → sent_text with_frames only (zip names (map (λ (day : FirmDay). day.sent) days)) ≡ days_text with_frames only (zip names days)
lists_asked with_frames None names days = list_all with_frames names days
lists_asked with_frames (Some n) names days = list_one with_frames n names days

pub lists_text : {X : Type 0} (items : X → List (List ℕ)) (with_frames : Bool) (only : Option ℕ) (names : List (List ℕ)) (lent sent : List X) (days : List FirmDay) (text : List ℕ)
    → text ≡ sent_text with_frames only (zip names (map items lent)) → lent ≡ sent → map items sent ≡ map (λ (day : FirmDay). day.sent) days
    → text ≡ days_text with_frames only (zip names days)
lists_text items with_frames only names lent sent days text is same are =
    is ∙ ap (λ l. sent_text with_frames only (zip names l)) (ap (map items) same ∙ are) ∙ lists_asked with_frames only names days

-- as many pairs as the first list has items are all
pub take_zip : {A B : Type 0} (xs : List A) (ys : List B) → take (length xs) (zip xs ys) ≡ zip xs ys
take_zip [] ys = refl
take_zip (x ∷ xs) [] = refl
take_zip (x ∷ xs) (y ∷ ys) = ap (λ ps. (x, y) ∷ ps) (take_zip xs ys)

-- an item of a list, or none
pub one_at_some : {A : Type 0} (xs : List A) (n : ℕ) (x : A) → slice_get xs n ≡ Some x → one_at n xs ≡ x ∷ []
one_at_some [] n x is = cc
one_at_some (a ∷ xs) zero x is = cc
one_at_some (a ∷ xs) (suc n) x is = one_at_some xs n x is

pub one_at_none : {A : Type 0} (xs : List A) (n : ℕ) → slice_get xs n ≡ None → one_at n xs ≡ []
one_at_none [] zero is = refl
one_at_none [] (suc n) is = refl
one_at_none (a ∷ xs) zero is = cc
one_at_none (a ∷ xs) (suc n) is = one_at_none xs n is

-- words with one space between each two: each but the first stands behind a space
pub spaced_words : (first : List ℕ) (words : List (List ℕ)) → join_with_byte 32 (first ∷ words) ≡ first ++ parts_behind words
spaced_words first [] = sym (append-nil first)
spaced_words first (word ∷ words) = ap (λ rest. first ++ 32 ∷ rest) (spaced_words word words)

-- the text of one item more
pub flat_more : {A : Type 0} (f : A → List ℕ) (xs : List A) (n : ℕ) (start before now : List ℕ)
    → before ≡ start ++ flat_map f (take n xs) → now ≡ before ++ flat_map f (one_at n xs)
    → now ≡ start ++ flat_map f (take (n + 1) xs)
flat_more f xs n start before now was is =
    is ∙ ap (λ t. t ++ flat_map f (one_at n xs)) was
    ∙ append_assoc start (flat_map f (take n xs)) (flat_map f (one_at n xs))
    ∙ ap (λ t. start ++ t) (sym (flat_map-append f (take n xs) (one_at n xs)) ∙ ap (flat_map f) (sym (take_more xs n)))

-- how many firms a venue has
pub length_names : (config : Configuration) → length (firm_names config) ≡ length config.dealers + length config.investors
length_names config =
    length-append (map (λ (row : DealerRow). row.name) config.dealers) (map (λ (row : InvestorRow). row.name) config.investors)
    ∙ ap (λ n. n + length (map (λ (row : InvestorRow). row.name) config.investors)) (length-map config.dealers (λ (row : DealerRow). row.name))
    ∙ ap (λ n. length config.dealers + n) (length-map config.investors (λ (row : InvestorRow). row.name))

-- the word at a place, behind its space
pub word_at : (words : List (List ℕ)) (n : ℕ) (word : List ℕ) → Some word ≡ slice_get words n → 32 ∷ word ≡ parts_behind (one_at n words)
word_at words n word is =
    ap (λ w. 32 ∷ w) (sym (append-nil word)) ∙ ap parts_behind (sym (one_at_some words n word (sym is)))

regrouped : (space end text first second third fourth behind : List ℕ)
    → text ++ (first ++ (space ++ second) ++ (space ++ third) ++ (space ++ fourth)) ++ behind ++ end
    ≡ text ++ ((first ++ (space ++ (second ++ (space ++ (third ++ (space ++ (fourth ++ behind))))))) ++ end)
regrouped space end text first second third fourth behind = simp append_assoc

-- a line of four words and more, put together as the code writes it
pub line_joined : (text first second third fourth : List ℕ) (words : List (List ℕ))
    → text ++ (first ++ 32 ∷ second ++ 32 ∷ third ++ 32 ∷ fourth) ++ parts_behind words ++ 10 ∷ []
    ≡ text ++ part_line (first ∷ second ∷ third ∷ fourth ∷ words)
line_joined text first second third fourth words =
    regrouped (32 ∷ []) (10 ∷ []) text first second third fourth (parts_behind words)
    ∙ ap (λ t. text ++ (first ++ 32 ∷ (second ++ 32 ∷ (third ++ 32 ∷ t)) ++ 10 ∷ [])) (sym (spaced_words fourth words))
