-- What the index has, as names change in one place.
use Rattle.std.proofs.Common.{◌≡◌, ◌⊎◌, ◌==◌, ◌&&◌, inl, inr, ℕ, Bool, true, false, cond, List, slice_get, Option}
use Rattle.std.proofs.Common.{Some, None, refl}
use Rattle.std.proofs.Common.{length, ap, sym, ◌∙◌, arith}
use Rattle.std.specs.Option.{option_map}
use Rattle.std.proofs.lemmas.Bool.{false≢true, cases_eq}
use Rattle.std.proofs.lemmas.Option.{none-some, same_Some, slice_get_past}
use Rattle.rx_model.specs.Names.{Connection}
use Rattle.rx_model.proofs.NameLaws.{same_number, number_itself, both}
use Rattle.rx_table.specs.declared.key.Key.{Key}
use Rattle.rx_table.specs.Layout.{IsIndex}
use Rattle.rx_table.specs.Names.{key_of, same_key, place_under}
use Rattle.rx_table.specs.Records.{IsDistinct}
use Rattle.rx_table.proofs.PlaceLaws.{place, is_absent, is_found, not_found, IsPut}

-- keys that test as one are one
key_is : (a b : Key) → same_key a b ≡ true → a ≡ b
key_is a b h =
    let addrs = both (a.addr == b.addr) _ h in
    let ports = both (a.port == b.port) _ addrs.1 in
    let numbers = both (a.epoch == b.epoch) _ ports.1 in
    let addr = same_number _ _ addrs.0 in
    let port = same_number _ _ ports.0 in
    let epoch = same_number _ _ numbers.0 in
    let cid = same_number _ _ numbers.1 in
    λ i. record { addr = addr i; port = port i; epoch = epoch i; cid = cid i }

-- a key is itself
key_itself : (a : Key) → same_key a a ≡ true
key_itself a = rw (number_itself a.addr, number_itself a.port, number_itself a.epoch, number_itself a.cid) refl

-- connections of one key are one
of_one_key : (x y : Connection) → key_of x ≡ key_of y → x ≡ y
of_one_key x y same =
    λ i. record {
      host = record { addr = (same i).addr; port = (same i).port };
      epoch = (same i).epoch;
      cid = (same i).cid;
    }

-- a name whose key is that of another is that one
of_same_key : (x y : Connection) → same_key (key_of x) (key_of y) ≡ true → x ≡ y
of_same_key x y same = of_one_key x y (key_is _ _ same)

-- the name under a key, at a place
of_named : (xs : List Connection) (q : ℕ) (x : Connection) → option_map key_of (slice_get xs q) ≡ Some (key_of x)
    → slice_get xs q ≡ Some x
of_named xs q x named = by (slice_get xs q) named
  where
    by : (o : Option Connection) → option_map key_of o ≡ Some (key_of x) → o ≡ Some x
    by None e = absurd (none-some (key_of x) e)
    by (Some y) e = ap Some (of_one_key y x (same_Some _ _ e))

-- where the index has a connection, it stands in the list
pub index_finds : (xs : List Connection) (index : List (Key × ℕ)) (complete : Bool) (x : Connection) (p : ℕ)
    → IsIndex xs index complete → IsDistinct xs → place_under index (key_of x) ≡ Some p → place xs x ≡ Some p
index_finds xs index complete x p indexed distinct found =
    is_found xs x p distinct (of_named xs p x (indexed.named (key_of x) p found))

-- where a complete index has none, none is in the list
pub index_lacks : (xs : List Connection) (index : List (Key × ℕ)) (complete : Bool) (x : Connection)
    → IsIndex xs index complete → complete ≡ true → place_under index (key_of x) ≡ None → place xs x ≡ None
index_lacks xs index complete x indexed whole lacks =
    not_found xs x (λ p at. none-some p (sym lacks ∙ indexed.whole whole p x at))

-- what the index has stands in the list, at another place than one; where it is complete, it has all but that
pub record IsIndexBut (xs : List Connection) (index : List (Key × ℕ)) (complete : Bool) (p : ℕ) : Type 0 where
  pub other : (k : Key) (q : ℕ) → place_under index k ≡ Some q → q ≡ p → ⊥
  pub named : (k : Key) (q : ℕ) → place_under index k ≡ Some q → option_map key_of (slice_get xs q) ≡ Some k
  pub whole : complete ≡ true → (q : ℕ) (x : Connection) → (q ≡ p → ⊥) → slice_get xs q ≡ Some x
      → place_under index (key_of x) ≡ Some q

-- no name stands past the end
pub but_past : (xs : List Connection) (index : List (Key × ℕ)) (complete : Bool) → IsIndex xs index complete
    → IsIndexBut xs index complete (length xs)
but_past xs index complete indexed =
    record {
      other = λ k q found is. none-some k (ap (option_map key_of) (sym (slice_get_past xs (length xs) (omega arith)))
          ∙ ap (λ n. option_map key_of (slice_get xs n)) (sym is) ∙ indexed.named k q found);
      named = indexed.named;
      whole = λ w q x other at. indexed.whole w q x at;
    }

-- the key of the name at a place went
pub but_forgotten : (xs : List Connection) (index less : List (Key × ℕ)) (complete : Bool) (p : ℕ) (w : Connection)
    → IsIndex xs index complete → IsDistinct xs → slice_get xs p ≡ Some w
    → ((k : Key) → place_under less k ≡ cond (same_key (key_of w) k) None (place_under index k))
    → IsIndexBut xs less complete p
but_forgotten xs index less complete p w indexed distinct at less_is =
    record { other = other; named = λ k q found. indexed.named k q (was k q found).1; whole = whole }
  where
    was : (k : Key) (q : ℕ) → place_under less k ≡ Some q
        → (same_key (key_of w) k ≡ false) × (place_under index k ≡ Some q)
    was k q found =
        (elim (same_key (key_of w) k) as (λ b. cond b None (place_under index k) ≡ Some q
        → (b ≡ false) × (place_under index k ≡ Some q)) [
          | true ↦ λ e. absurd (none-some q e)
          | false ↦ λ e. (refl, e)
        ]) (sym (less_is k) ∙ found)

    other : (k : Key) (q : ℕ) → place_under less k ≡ Some q → q ≡ p → ⊥
    other k q found is =
        let past = was k q found in
        let key : Some (key_of w) ≡ Some k =
        ap (option_map key_of) (sym at ∙ ap (slice_get xs) (sym is)) ∙ indexed.named k q past.1 in
        false≢true (sym past.0 ∙ ap (same_key (key_of w)) (sym (same_Some _ _ key)) ∙ key_itself (key_of w))

    whole : complete ≡ true → (q : ℕ) (x : Connection) → (q ≡ p → ⊥) → slice_get xs q ≡ Some x
        → place_under less (key_of x) ≡ Some q
    whole w_is q x elsewhere at_q =
        less_is (key_of x)
        ∙ (elim (same_key (key_of w) (key_of x)) as (λ b. same_key (key_of w) (key_of x) ≡ b
        → cond b None (place_under index (key_of x)) ≡ Some q) [
          | true ↦ λ same. absurd (elsewhere (distinct q p x at_q (at ∙ ap Some (of_same_key w x same))))
          | false ↦ λ differ. indexed.whole w_is q x at_q
        ]) refl

-- the index after it was asked to take a key for a place: it did, or it stays
pub record IsAsked (index : List (Key × ℕ)) (key : Key) (p : ℕ) (took : Bool) (new : List (Key × ℕ)) : Type 0 where
  pub taken : took ≡ true → (k : Key) → place_under new k ≡ cond (same_key key k) (Some p) (place_under index k)
  pub refused : took ≡ false → new ≡ index

-- a name that stood nowhere is put into the place that the index leaves out
pub indexed-put : (xs ys : List Connection) (index new : List (Key × ℕ)) (complete took : Bool) (p : ℕ) (y : Connection)
    → IsIndexBut xs index complete p → place xs y ≡ None → IsPut xs ys p y → IsAsked index (key_of y) p took new
    → IsIndex ys new (complete && took)
indexed-put xs ys index new complete true p y but absent put asked =
    record { named = named; whole = λ w. whole (both complete true w).0 }
  where
    named : (k : Key) (q : ℕ) → place_under new k ≡ Some q → option_map key_of (slice_get ys q) ≡ Some k
    named k q found =
        (elim (same_key (key_of y) k) as (λ b. same_key (key_of y) k ≡ b
        → cond b (Some p) (place_under index k) ≡ Some q
        → option_map key_of (slice_get ys q) ≡ Some k) [
          | true ↦ λ same e. ap (λ n. option_map key_of (slice_get ys n)) (sym (same_Some _ _ e))
              ∙ ap (option_map key_of) put.here ∙ ap Some (key_is (key_of y) k same)
          | false ↦ λ differ e. ap (option_map key_of) (put.others q (but.other k q e)) ∙ but.named k q e
        ]) refl (sym (asked.taken refl k) ∙ found)

    whole : complete ≡ true → (q : ℕ) (x : Connection) → slice_get ys q ≡ Some x → place_under new (key_of x) ≡ Some q
    whole w q x at =
        asked.taken refl (key_of x)
        ∙ by (cases_eq q p)
      where
        by : (q ≡ p) ⊎ (q ≡ p → ⊥)
            → cond (same_key (key_of y) (key_of x)) (Some p) (place_under index (key_of x)) ≡ Some q
        by (inl is) =
            let x_is : x ≡ y = same_Some _ _ (sym at ∙ ap (slice_get ys) is ∙ put.here) in
            ap (λ z. cond (same_key (key_of y) (key_of z)) (Some p) (place_under index (key_of z))) x_is
            ∙ ap (λ b. cond b (Some p) (place_under index (key_of y))) (key_itself (key_of y)) ∙ ap Some (sym is)
        by (inr other) =
            let at_x : slice_get xs q ≡ Some x = sym (put.others q other) ∙ at in
            (elim (same_key (key_of y) (key_of x)) as (λ b. same_key (key_of y) (key_of x) ≡ b
            → cond b (Some p) (place_under index (key_of x)) ≡ Some q) [
              | true ↦ λ same. absurd (is_absent xs y absent q (at_x ∙ ap Some (sym (of_same_key y x same))))
              | false ↦ λ differ. but.whole w q x other at_x
            ]) refl
indexed-put xs ys index new complete false p y but absent put asked =
    let stays = asked.refused refl in
    record {
      named = λ k q found.
          (let e : place_under index k ≡ Some q = ap (λ i. place_under i k) (sym stays) ∙ found in
          ap (option_map key_of) (put.others q (but.other k q e)) ∙ but.named k q e);
      whole = λ w. absurd (false≢true (both complete false w).1);
    }
