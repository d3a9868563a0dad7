-- The test of two values says yes exactly where they are one.
use Rattle.std.proofs.Common.{◌≡◌, ◌↔◌, Bool, true, false, refl, ap, subst}
use Rattle.std.proofs.lemmas.Bool.{and_parts, and_from}
use Rattle.std.proofs.lemmas.Bool.Decides.{Decides-int_eq}
use Rattle.std.proofs.lemmas.Slice.Eq.{bytes_eq-Decides}
use Rattle.xdr_value.specs.Data.{Datum, number, flag, octets, items, union, none, some, nothing, Data, end, more}
use Rattle.rx_script.specs.Same.{same_flag, same_value, same_values}

flag_is : (b c : Bool) → same_flag b c ≡ true → b ≡ c
flag_is true true h = refl
flag_is false false h = refl
flag_is true false h = cc
flag_is false true h = cc

flag_self : (b : Bool) → same_flag b b ≡ true
flag_self true = refl
flag_self false = refl

mutual
  value_is : (a b : Datum) → same_value a b ≡ true → a ≡ b
  value_is (number z) (number y) h = ap number ((Decides-int_eq z y).0 h)
  value_is (flag b) (flag c) h = ap flag (flag_is b c h)
  value_is (octets bs) (octets cs) h = ap octets ((bytes_eq-Decides bs cs).0 h)
  value_is (items vs) (items ws) h = ap items (values_are vs ws h)
  value_is (union t a) (union u b) h =
      let parts = and_parts (same_value t u) (same_value a b) h in
      let tags = value_is t u parts.0 in
      let arms = value_is a b parts.1 in
      cc
  value_is none none h = refl
  value_is (some v) (some w) h = ap some (value_is v w h)
  value_is nothing nothing h = refl
  value_is _ _ h = cc

  values_are : (vs ws : Data) → same_values vs ws ≡ true → vs ≡ ws
  values_are end end h = refl
  values_are (more v vs) (more w ws) h =
      let parts = and_parts (same_value v w) (same_values vs ws) h in
      let first = value_is v w parts.0 in
      let rest = values_are vs ws parts.1 in
      cc
  values_are _ _ h = cc

mutual
  value_self : (a : Datum) → same_value a a ≡ true
  value_self (number z) = (Decides-int_eq z z).1 refl
  value_self (flag b) = flag_self b
  value_self (octets bs) = (bytes_eq-Decides bs bs).1 refl
  value_self (items vs) = values_self vs
  value_self (union t a) = and_from (same_value t t) (same_value a a) (value_self t) (value_self a)
  value_self none = refl
  value_self (some v) = value_self v
  value_self nothing = refl

  values_self : (vs : Data) → same_values vs vs ≡ true
  values_self end = refl
  values_self (more v vs) = and_from (same_value v v) (same_values vs vs) (value_self v) (values_self vs)

pub one_value : (a b : Datum) → (same_value a b ≡ true) ↔ (a ≡ b)
one_value a b = (value_is a b, λ e. subst (λ (c : Datum). same_value a c ≡ true) e (value_self a))
