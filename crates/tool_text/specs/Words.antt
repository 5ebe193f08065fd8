-- Which words ask for which command.
use Rattle.std.specs.Prelude.{◌≡◌, ℕ, ◌<◌, ◌^◌, List, [], ◌∷◌, codes}
use Rattle.std.specs.Fmt.{decimal}
use Rattle.tool_text.specs.declared.words.Words.{Words}
use Rattle.tool_text.specs.declared.words.Words.TheVariants.{Show, Check, Replay, Gen}

-- `show` and a timestamp, in decimal digits with no sign and no leading zero; or `check`. No words ask for the other commands yet.
abbrev pub AsksFor : List (List ℕ) → Words → Type 0
AsksFor words (Show ts) = (ts < 2 ^ 64) × (words ≡ codes "show" ∷ decimal ts ∷ [])
AsksFor words Check = words ≡ codes "check" ∷ []
AsksFor words (Replay settle) = ⊥
AsksFor words (Gen n) = ⊥

-- the words are a command
abbrev pub IsCommand : List (List ℕ) → Type 0
IsCommand words = (command : Words) × AsksFor words command
