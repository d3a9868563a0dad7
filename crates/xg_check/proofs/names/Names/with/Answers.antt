use Rattle.std.proofs.Common.{◌≡◌, ◌∷◌, ◌++◌, [], true, false, ℕ, Option, Some, cond, List, Bor, map, is_some, length}
use Rattle.std.proofs.Common.{sym, ap, ◌∙◌, arith}
use Rattle.std.proofs.lemmas.List.{length-map, map-append}
use Rattle.std.specs.Str.{bytes_eq}
use Rattle.xg_check.specs.Places.{place_of}
use Rattle.xg_check.proofs.NameLaws.{known-more, new-more}
use Rattle.xg_check.proofs.names.Names.with.Goals as goal
use Rattle.xg_check.proofs.names.Names.with.Goals.{then-not-contains_key+in_ok-insert, else-not-contains_key}

pub invariant_of-result : goal.invariant_of-result
invariant_of-result c = λ q.
    let name = c.args.name in
    let now : Bor (List ℕ) → List ℕ = λ s. s.now in
    let kept = c.self.inside.names.items in
    let joined : place_of q (map now kept ++ name.now ∷ []) ≡ place_of q (map now (kept ++ name ∷ [])) =
    sym (ap (place_of q) (map-append now kept (name ∷ []))) in
    elim c.if-not-contains_key.branch [
      | then-not-contains_key+in_ok-insert w ↦
          let new : is_some (place_of name.now (map now kept)) ≡ false =
          sym (ap is_some (c.self.invariant name.now)) ∙ sym c.contains_key.ensures ∙ w.if-not-contains_key.true in
          let behind : w.len.result ≡ length (map now kept) =
          omega (arith, w.len.ensures, c.self.inside.names.ok.0, length-map kept now) in
          rw (w.places-is, c.in_ok-push.ensures.items)
          (w.in_ok-insert.ensures.updates.0 (record name { now = q })
          ∙ ap (λ (o : Option ℕ). cond (bytes_eq name.now q) (Some w.len.result) o) (c.self.invariant q)
          ∙ ap (λ (n : ℕ). cond (bytes_eq name.now q) (Some n) (place_of q (map now kept))) behind
          ∙ sym (new-more (map now kept) name.now q new) ∙ joined)
      | else-not-contains_key w ↦
          let known : is_some (place_of name.now (map now kept)) ≡ true =
          sym (ap is_some (c.self.invariant name.now)) ∙ sym c.contains_key.ensures ∙ w.if-not-contains_key.false in
          rw (w.places-is, c.in_ok-push.ensures.items)
          (c.self.invariant q ∙ sym (known-more (map now kept) name.now q known) ∙ joined)
    ]
