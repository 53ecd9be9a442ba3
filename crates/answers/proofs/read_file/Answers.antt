use Rattle.std.proofs.Common.{◌≡◌, ℕ, List, [], ◌++◌, take, IfSome, Option, Some, None}
use Rattle.std.specs.Option.{option_map}
use Rattle.answers.proofs.read_file.Goals as goal

-- what is read from a limit on behind nothing is the front of what there is
front : (left : Option (List ℕ)) (n : ℕ) (old got : List ℕ) → old ≡ [] → IfSome (option_map (take n) left) (λ xs. got ≡ old ++ xs) → IfSome left (λ bytes. got ≡ take n bytes)
front None n old got e h = h
front (Some bytes) n old got e h = rw e at h

pub returns : goal.returns
returns g c =
    front (g.R.Read.remaining c.args.input) 65537 _ _ c.new-file.ensures.items
    (rw (c.take.ensures.limit, c.take.ensures.inner) at c.in_ok-read_to_end.ensures.bytes)
