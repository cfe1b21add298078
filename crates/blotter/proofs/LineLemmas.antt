-- The line of a quote, put together from the parts that the code writes.
use Rattle.std.proofs.Common.{◌≡◌, ℕ, List, [], ◌∷◌, ◌++◌, append_assoc}
use Rattle.blotter.specs.BlotterText.{line_of}

joined : (space end text number time trader request bond side quantity price state : List ℕ)
    → text ++ (number ++ (space ++ time) ++ (space ++ trader) ++ space) ++ request ++ space
    ++ (bond ++ (space ++ side) ++ (space ++ quantity) ++ space) ++ (price ++ (space ++ state) ++ end)
    ≡ text ++ ((number ++ (space ++ (time ++ (space ++ (trader ++ (space ++ (request ++ (space ++ (bond ++ (space ++ (side
    ++ (space ++ (quantity ++ (space ++ (price ++ (space ++ state)))))))))))))))) ++ end)
joined space end text number time trader request bond side quantity price state = simp append_assoc

pub quote_line_joined : (text number time trader request bond side quantity price state : List ℕ)
    → text ++ (number ++ 32 ∷ time ++ 32 ∷ trader ++ 32 ∷ []) ++ request ++ 32 ∷ []
    ++ (bond ++ 32 ∷ side ++ 32 ∷ quantity ++ 32 ∷ []) ++ (price ++ 32 ∷ state ++ 10 ∷ [])
    ≡ text ++ line_of (number ∷ time ∷ trader ∷ request ∷ bond ∷ side ∷ quantity ∷ price ∷ state ∷ [])
quote_line_joined text number time trader request bond side quantity price state =
    joined (32 ∷ []) (10 ∷ []) text number time trader request bond side quantity price state
