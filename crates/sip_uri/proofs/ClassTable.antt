-- The table of classes has the classes of each octet.
use Rattle.std.proofs.Common.{◌≡◌, ℕ, ◌<◌, ◌==◌, Bool, false, not, List, ap, map, get_or, bit_and, refl, sym, ◌∙◌, arith}
use Rattle.std.proofs.lemmas.List.{get_or-map}
use Rattle.std.proofs.lemmas.List.FromFn.{get_or-map-range_with_len}
use Rattle.std.specs.List.{range_with_len}
use Rattle.sip_uri.specs.Readers.Runs.{octets_of, bit}
use Rattle.sip_uri.specs.declared.classes.TheConstants.{CLASSES}
use Rattle.sip_uri.specs.declared.classes.Class.{Class}
use Rattle.sip_uri.specs.declared.classes.Class.TheVariants.{User, Password, Param, Header, Label}

-- whether the table has an octet in a class
abbrev pub stands : Class → ℕ → Bool
stands class classes = not (bit_and classes (bit class) == 0)

all_octets : (class : Class) → map (octets_of class) (range_with_len 0 256) ≡ map (stands class) CLASSES
all_octets User = refl
all_octets Password = refl
all_octets Param = refl
all_octets Header = refl
all_octets Label = refl

pub octet_stands : (class : Class) (octet : ℕ) → octet < 256 → stands class (get_or CLASSES octet 0) ≡ octets_of class octet
octet_stands class octet within =
    sym (get_or-map (stands class) CLASSES octet 0 false within)
    ∙ ap (λ (all : List Bool). get_or all octet false) (sym (all_octets class))
    ∙ get_or-map-range_with_len (octets_of class) 0 256 octet octet false within (omega arith)

-- the mark of an escaped octet is of no class
pub no_percent : (class : Class) → octets_of class 37 ≡ false
no_percent User = refl
no_percent Password = refl
no_percent Param = refl
no_percent Header = refl
no_percent Label = refl
