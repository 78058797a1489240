-- What the two grammars ask of a text.
use Rattle.std.specs.Prelude.{ℕ, List, []}
use Rattle.sip_fault.specs.Faults.{IsUri, IsVia, HasEndAmong, uri_tail, uri_words, via_words}
use Rattle.sip_fault.specs.declared.grammar.Grammar.{Grammar}
use Rattle.sip_fault.specs.declared.grammar.Grammar.TheVariants.{Uri, Via}

-- a text is one of the grammar
abbrev pub Spells : Grammar → List ℕ → Type 0
Spells Uri = IsUri
Spells Via = IsVia

-- the words whose ends are what a beginning may lack
abbrev pub words_of : Grammar → List (List ℕ)
words_of Uri = uri_words
words_of Via = via_words

-- what has to stand behind such an end
abbrev pub tail_of : Grammar → List ℕ → List ℕ → List ℕ
tail_of Uri front rest = uri_tail front rest
tail_of Via front rest = []

-- a beginning of a text can go on
abbrev pub GoesOn : Grammar → List ℕ → List ℕ → Type 0
GoesOn grammar front rest =
    HasEndAmong (Spells grammar) (words_of grammar) (tail_of grammar front rest) front
