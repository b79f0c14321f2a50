-- Lemmas: each attribute's text has its place in the list of texts, and replacing the text changes this place alone.
use Rattle.std.proofs.Common.{◌≡◌, ℕ, List, refl}
use Rattle.std.specs.Borrow.{Bor}
use Rattle.cpe_name.specs.declared.attribute.Attribute.{Attribute}
use Rattle.cpe_name.specs.declared.attribute.Attribute.TheVariants.{Part, Vendor, Product, Version, Update, Edition, Language, SwEdition, TargetSw, TargetHw, Other}
use Rattle.cpe_name.specs.Eleven.{Written, at, put}
use Rattle.cpe_name.specs.Scanning.{slot, put_text}
use Rattle.cpe_name.specs.Spans.{texts}

pub slot_is : (w : Written) (a : Attribute) → (at w a).now ≡ slot (texts w) a
slot_is w Part = refl
slot_is w Vendor = refl
slot_is w Product = refl
slot_is w Version = refl
slot_is w Update = refl
slot_is w Edition = refl
slot_is w Language = refl
slot_is w SwEdition = refl
slot_is w TargetSw = refl
slot_is w TargetHw = refl
slot_is w Other = refl

pub put_is : (w : Written) (a : Attribute) (t : Bor (List ℕ)) → texts (put w a t) ≡ put_text (texts w) a t.now
put_is w Part t = refl
put_is w Vendor t = refl
put_is w Product t = refl
put_is w Version t = refl
put_is w Update t = refl
put_is w Edition t = refl
put_is w Language t = refl
put_is w SwEdition t = refl
put_is w TargetSw t = refl
put_is w TargetHw t = refl
put_is w Other t = refl
