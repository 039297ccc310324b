use Rattle.std.proofs.Common.{◌≡◌, ◌++◌, map, string_bytes, sym, ap, ◌∙◌, refl, rules}
use Rattle.std.specs.Process.{command_args}
use Rattle.std.proofs.lemmas.Iterator.{items_from_drains, YieldsList-from_slice}
use Rattle.std.proofs.lemmas.Simd.{map-map}
use Rattle.process_hatch.proofs.hatch.command.Goals as goal

pub returns : goal.returns
returns c =
    let h = c.in_ok-args.ensures.args in
    let items : map (λ y. y.now) h.1 ≡ c.in-Some.args.now = items_from_drains h.1 (h.4.1.0, h.4.1.1, λ _. (h.4.0, h.4.1.2)) (YieldsList-from_slice c.in-Some.args.now h.2.0) in
    let texts : map (λ x. string_bytes x.now) h.1 ≡ map string_bytes c.in-Some.args.now = sym (map-map _ _ _) ∙ ap (map string_bytes) items in
    let told : command_args c.in_ok-args.field-0.now ≡ map string_bytes c.in-Some.args.now
    = h.3 (λ _. refl) ∙ ap (λ l. l ++ map (λ x. string_bytes x.now) h.1) c.in_ok-command.ensures.args ∙ texts in
    search rules
