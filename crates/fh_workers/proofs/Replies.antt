-- A failed ask leaves replies that are all bytes.
use Rattle.std.specs.Prelude.{◌≡◌, ℕ, List, [], ◌∷◌, take, map, Some, refl}
use Rattle.fh_workers.specs.Links.{after_failure}

pub kept_by_failure : (replies : List (List ℕ))
    → after_failure (map (λ reply. Some (take 2097153 reply)) replies) ≡ map (λ reply. Some (take 2097153 reply)) replies
kept_by_failure [] = refl
kept_by_failure (reply ∷ later) = refl
