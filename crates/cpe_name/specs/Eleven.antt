-- Eleven fields, one for each attribute of a name.
use Rattle.std.specs.Prelude.{ℕ, List}
use Rattle.std.specs.Borrow.{Bor}
use Rattle.cpe_values.specs.declared.value.Value.{Value}
use Rattle.cpe_values.specs.declared.borrowed.ValueRef.{ValueRef}
use Rattle.cpe_name.specs.declared.eleven.Eleven.{Eleven}
use Rattle.cpe_name.specs.declared.attribute.Attribute.{Attribute}
use Rattle.cpe_name.specs.declared.attribute.Attribute.TheVariants.{Part, Vendor, Product, Version, Update, Edition, Language, SwEdition, TargetSw, TargetHw, Other}

-- the field of an attribute
abbrev pub at : {T : Type 0} → Eleven T → Attribute → T
at e Part = e.part
at e Vendor = e.vendor
at e Product = e.product
at e Version = e.version
at e Update = e.update
at e Edition = e.edition
at e Language = e.language
at e SwEdition = e.sw_edition
at e TargetSw = e.target_sw
at e TargetHw = e.target_hw
at e Other = e.other

-- the fields with another value at one attribute
abbrev pub put : {T : Type 0} → Eleven T → Attribute → T → Eleven T
put e Part x = record e { part = x }
put e Vendor x = record e { vendor = x }
put e Product x = record e { product = x }
put e Version x = record e { version = x }
put e Update x = record e { update = x }
put e Edition x = record e { edition = x }
put e Language x = record e { language = x }
put e SwEdition x = record e { sw_edition = x }
put e TargetSw x = record e { target_sw = x }
put e TargetHw x = record e { target_hw = x }
put e Other x = record e { other = x }

-- the fields made by a function of the attribute
abbrev pub each : {T : Type 0} → (Attribute → T) → Eleven T
each f = record {
  part = f Part;
  vendor = f Vendor;
  product = f Product;
  version = f Version;
  update = f Update;
  edition = f Edition;
  language = f Language;
  sw_edition = f SwEdition;
  target_sw = f TargetSw;
  target_hw = f TargetHw;
  other = f Other;
}

-- the eleven values of a name
abbrev pub Values : Type 0
Values = Eleven Value

-- the texts of the eleven values of a name
abbrev pub Written : Type 0
Written = Eleven (Bor (List ℕ))

-- the eleven borrowed values of a name
abbrev pub NameRef : Type 0
NameRef = Eleven ValueRef
