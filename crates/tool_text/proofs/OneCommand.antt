-- Words ask for one command at most.
use Rattle.std.proofs.Common.{◌≡◌, ◌∙◌, refl, sym, ap, ℕ, List, [], ◌∷◌}
use Rattle.std.specs.Prelude.{codes}
use Rattle.std.specs.Fmt.{decimal}
use Rattle.tool_text.specs.Words.{AsksFor}
use Rattle.tool_text.specs.declared.words.Words.{Words}
use Rattle.tool_text.specs.declared.words.Words.TheVariants.{Show, Check, Replay, Gen}
use Rattle.tool_text.proofs.Numbers.{same_number}

second : {X : Type 0} (a b c d : X) → a ∷ b ∷ [] ≡ c ∷ d ∷ [] → b ≡ d
second a b c d is = cc is

pub asks_once : (words : List (List ℕ)) (a b : Words) → AsksFor words a → AsksFor words b → a ≡ b
asks_once words (Show m) (Show n) is is' = ap Show (same_number m n is.0 is'.0 (second (codes "show") (decimal m) (codes "show") (decimal n) (sym is.1 ∙ is'.1)))
asks_once words (Show m) Check is is' = absurd (cc (is.1, is'))
asks_once words Check (Show n) is is' = absurd (cc (is, is'.1))
asks_once words Check Check is is' = refl
asks_once words (Show m) (Replay settle) is is' = absurd is'
asks_once words Check (Replay settle) is is' = absurd is'
asks_once words (Show m) (Gen n) is is' = absurd is'
asks_once words Check (Gen n) is is' = absurd is'
asks_once words (Replay settle) b is is' = absurd is
asks_once words (Gen n) b is is' = absurd is
