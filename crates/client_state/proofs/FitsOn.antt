-- What is not confirmed keeps fitting the document.
use Rattle.std.proofs.Common.{◌≡◌, ℕ, Option, None, Some, length, sym, ap, ◌∙◌}
use Rattle.ot_text.specs.Change.{Change, base, target, effect}
use Rattle.ot_text.specs.Marked.{Marked, char_by}
use Rattle.ot_text.proofs.EffectOf.{length-effect}
use Rattle.ot_transform.specs.Transform.{right}
use Rattle.ot_transform.proofs.Merge.{base-left, base-right}
use Rattle.ot_transform.proofs.Comp.{base-comp}
use Rattle.ot_transform.proofs.LeftLengths.{target-left}
use Rattle.log_model.specs.Log.{doc_after}
use Rattle.log_model.specs.Legal.{OpFits}
use Rattle.client_state.specs.declared.state.State.{State}
use Rattle.client_state.specs.declared.state.State.TheVariants.{Synchronized, Awaiting, WithBuffer}
use Rattle.client_state.specs.Pending.{outstanding, after_edit, after_own, after_told, other_base}
use Rattle.client_state.specs.Standing.{FitsOn, pending_on}

-- behind a local edit the unconfirmed operations still fit the document
pub typed_bases : (own : ℕ) (s : State) (op : Change) (d : Marked) → base op ≡ length (pending_on own s d) → FitsOn s (length d) → FitsOn (after_edit s op) (length d)
typed_bases own Synchronized op d e f = e
typed_bases own (Awaiting u) op d e f = (f, e ∙ length-effect (char_by own) u d (sym f))
typed_bases own (WithBuffer u v) op d e f =
    let mid : length (effect (char_by own) u d) ≡ target u = length-effect (char_by own) u d (sym f.0) in
    let end : target v ≡ base op = sym (length-effect (char_by own) v (effect (char_by own) u d) (mid ∙ sym f.1)) ∙ sym e in
    (f.0, base-comp v op end ∙ f.1)

-- behind an entry by another they fit the document that it makes
pub told_bases : (who : ℕ) (s : State) (o : Option Change) (d : Marked) → FitsOn s (length d) → OpFits o (length d) → FitsOn (after_told s o) (length (doc_after who o d))
told_bases who s None d f g = f
told_bases who Synchronized (Some b) d f g = tt
told_bases who (Awaiting u) (Some b) d f g = base-left u b (f ∙ sym g) ∙ sym (length-effect (char_by who) b d (sym g))
told_bases who (WithBuffer u v) (Some b) d f g =
    let b1 : Change = right b u in
    let same : base v ≡ base b1 = f.1 ∙ sym (base-right u b (f.0 ∙ sym g)) in (
      base-left u b (f.0 ∙ sym g) ∙ sym (length-effect (char_by who) b d (sym g)),
      base-left v b1 same ∙ sym (target-left u b (f.0 ∙ sym g)),
    )

-- behind the confirmation of the outstanding operation they fit the document that it makes
pub own_bases : (who : ℕ) (s : State) (o : Option Change) (d : Marked) → o ≡ outstanding s → FitsOn s (length d) → FitsOn (after_own s) (length (doc_after who o d))
own_bases who Synchronized o d e f = tt
own_bases who (Awaiting w) o d e f = tt
own_bases who (WithBuffer w v) None d e f = absurd (cc)
own_bases who (WithBuffer w v) (Some u) d e f =
    let same : w ≡ u = cc in
    f.1 ∙ ap target same ∙ sym (length-effect (char_by who) u d (sym (ap base (sym same) ∙ f.0)))

-- an operation that fits what is sent fits the document in front of it
pub fits_front : (own : ℕ) (s : State) (o : Option Change) (d : Marked) → FitsOn s (length d) → OpFits o (other_base s (length (pending_on own s d))) → OpFits o (length d)
fits_front own s None d f g = tt
fits_front own Synchronized (Some b) d f g = g
fits_front own (Awaiting u) (Some b) d f g = g ∙ f
fits_front own (WithBuffer u v) (Some b) d f g = g ∙ f.0
