-- Lemmas: replacing a value of a name gives a name exactly if the new value suits the attribute.
use Rattle.std.proofs.Common.{◌≢◌, refl}
use Rattle.cpe_values.specs.declared.value.Value.{Value}
use Rattle.cpe_values.specs.Values.{IsValue}
use Rattle.cpe_name.specs.Eleven.{Values, put}
use Rattle.cpe_name.specs.declared.attribute.Attribute.{Attribute}
use Rattle.cpe_name.specs.declared.attribute.Attribute.TheVariants.{Part, Vendor, Product, Version, Update, Edition, Language, SwEdition, TargetSw, TargetHw, Other}
use Rattle.cpe_name.specs.Names.{Suits, IsName}

-- any lawful value suits an attribute that has no special shape
pub suits_other : (a : Attribute) (x : Value) → a ≢ Part → a ≢ Language → IsValue x → Suits a x
suits_other Part x no_part no_language is = absurd (no_part refl)
suits_other Language x no_part no_language is = absurd (no_language refl)
suits_other Vendor x no_part no_language is = is
suits_other Product x no_part no_language is = is
suits_other Version x no_part no_language is = is
suits_other Update x no_part no_language is = is
suits_other Edition x no_part no_language is = is
suits_other SwEdition x no_part no_language is = is
suits_other TargetSw x no_part no_language is = is
suits_other TargetHw x no_part no_language is = is
suits_other Other x no_part no_language is = is

pub put_lawful : (v : Values) (a : Attribute) (x : Value) → IsName v → Suits a x → IsName (put v a x)
put_lawful v Part x (p, (a, (b, (c, (d, (e, (l, (f, (g, (h, (i, u))))))))))) is = (is, (a, (b, (c, (d, (e, (l, (f, (g, (h, (i, u)))))))))))
put_lawful v Vendor x (p, (a, (b, (c, (d, (e, (l, (f, (g, (h, (i, u))))))))))) is = (p, (is, (b, (c, (d, (e, (l, (f, (g, (h, (i, u)))))))))))
put_lawful v Product x (p, (a, (b, (c, (d, (e, (l, (f, (g, (h, (i, u))))))))))) is = (p, (a, (is, (c, (d, (e, (l, (f, (g, (h, (i, u)))))))))))
put_lawful v Version x (p, (a, (b, (c, (d, (e, (l, (f, (g, (h, (i, u))))))))))) is = (p, (a, (b, (is, (d, (e, (l, (f, (g, (h, (i, u)))))))))))
put_lawful v Update x (p, (a, (b, (c, (d, (e, (l, (f, (g, (h, (i, u))))))))))) is = (p, (a, (b, (c, (is, (e, (l, (f, (g, (h, (i, u)))))))))))
put_lawful v Edition x (p, (a, (b, (c, (d, (e, (l, (f, (g, (h, (i, u))))))))))) is = (p, (a, (b, (c, (d, (is, (l, (f, (g, (h, (i, u)))))))))))
put_lawful v Language x (p, (a, (b, (c, (d, (e, (l, (f, (g, (h, (i, u))))))))))) is = (p, (a, (b, (c, (d, (e, (is, (f, (g, (h, (i, u)))))))))))
put_lawful v SwEdition x (p, (a, (b, (c, (d, (e, (l, (f, (g, (h, (i, u))))))))))) is = (p, (a, (b, (c, (d, (e, (l, (is, (g, (h, (i, u)))))))))))
put_lawful v TargetSw x (p, (a, (b, (c, (d, (e, (l, (f, (g, (h, (i, u))))))))))) is = (p, (a, (b, (c, (d, (e, (l, (f, (is, (h, (i, u)))))))))))
put_lawful v TargetHw x (p, (a, (b, (c, (d, (e, (l, (f, (g, (h, (i, u))))))))))) is = (p, (a, (b, (c, (d, (e, (l, (f, (g, (is, (i, u)))))))))))
put_lawful v Other x (p, (a, (b, (c, (d, (e, (l, (f, (g, (h, (i, u))))))))))) is = (p, (a, (b, (c, (d, (e, (l, (f, (g, (h, (is, u)))))))))))

-- if replacing a value gives a name, the new value suits the attribute
pub put_suits : (v : Values) (a : Attribute) (x : Value) → IsName (put v a x) → Suits a x
put_suits v Part x is = is.0
put_suits v Vendor x is = is.1.0
put_suits v Product x is = is.1.1.0
put_suits v Version x is = is.1.1.1.0
put_suits v Update x is = is.1.1.1.1.0
put_suits v Edition x is = is.1.1.1.1.1.0
put_suits v Language x is = is.1.1.1.1.1.1.0
put_suits v SwEdition x is = is.1.1.1.1.1.1.1.0
put_suits v TargetSw x is = is.1.1.1.1.1.1.1.1.0
put_suits v TargetHw x is = is.1.1.1.1.1.1.1.1.1.0
put_suits v Other x is = is.1.1.1.1.1.1.1.1.1.1.0
