-- Plain numbers are read at once.
use Rattle.std.proofs.Common.{◌≡◌, rules, ℕ, zero, suc, List, refl}
use Rattle.xdr_value.specs.declared.ty.Basic.{Basic}
use Rattle.xdr_value.specs.declared.ty.Basic.TheVariants as basics
use Rattle.xdr_value.specs.Data.{Kind, basic, Types}
use Rattle.xdr_value.specs.Heads.{is_basic, head_of, head_within}
use Rattle.xdr_value.specs.View.{kind_of}
use Rattle.xdr_value.specs.declared.ty.Ty as ty
use Rattle.xdr_code.specs.Reading.{basic_at, head_at, value_at}

pub plain_at : (n : ℕ) (t : Types) (k : Kind) (b : Basic) (bytes : List ℕ) → head_of t k ≡ is_basic b
    → value_at n t k bytes ≡ basic_at b bytes
unfolding value_at head_at
plain_at zero t k b bytes is = rw is refl
plain_at (suc n) t k b bytes is = rw is refl

pub plain_head : (t : Types) (k : Kind) (b : Basic) → k ≡ basic b → head_of t k ≡ is_basic b
unfolding head_of head_within
plain_head t k b is = rw is refl

pub int_kind : kind_of ty.Int ≡ basic basics.Int
int_kind = search (rules, ty.the_lemmas)

pub uint_kind : kind_of ty.Uint ≡ basic basics.Uint
uint_kind = search (rules, ty.the_lemmas)
