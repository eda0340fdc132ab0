use Rattle.std.proofs.Common.{◌≡◌, ◌+◌, max, eqb, length, sym, refl, ap, ◌∙◌, arith}
use lib.Seq.{paste}
use Rattle.std.proofs.lemmas.Bool.{cond-false}
use Rattle.std.proofs.lemmas.Slice.{put_mid-paste}
use Rattle.flat.proofs.Edits.{record_slice, put_record, length-stored}
use Rattle.flat.specs.RecordLaws.{length-record_at}
use Rattle.flat.specs.Images.{record_at}
use Rattle.flat.specs.Records.{number_bytes, size_of, stored}
use Rattle.flat.proofs.images.Image.store.Goals as goal

pub returns-clause-bytes : goal.returns-clause-bytes
unfolding stored
returns-clause-bytes c =
    let im = c.args.self.now in
    let r = c.args.r in
    let at = c.args.at in
    let ds = c.args.bytes.now in
    let rec = record_at im.bytes.items im.limit r in
    let is = record_slice im.bytes.items im.limit im.shape r c.requires.low _ c.deref_mut.ensures.value in
    let long = length-stored rec at ds (omega (arith, length-record_at im.bytes.items im.limit r, c.requires.within)) ∙ length-record_at im.bytes.items im.limit r in
    let size = max (size_of rec) (at + length ds) in
    let sized : c.max-size.result ≡ size = c.max-size.ensures ∙ ap (λ n. max n (at + length ds)) (c.size.ensures.value ∙ ap size_of c.record.ensures.is) in
    let four : c.copy_from_slice-2.new.self ≡ number_bytes size = c.copy_from_slice-2.ensures.after ∙ (c.to_le_bytes.ensures ∙ ap number_bytes sized) in
    let new =
    put_mid-paste 33 4 _ _ (number_bytes size) 4 four refl refl
    ∙ ap (λ xs. paste xs 33 (number_bytes size) 4) (put_mid-paste (64 + at) _ _ _ ds (length ds) c.copy_from_slice.ensures.after (omega arith) refl ∙ ap (λ xs. paste xs (64 + at) ds (length ds)) is) in
    let e = put_record im.bytes.items im.limit im.shape r c.requires.low (stored rec at ds) long im.bytes _ _ refl c.deref_mut.ensures.value new in
    rw (c.span-span.ensures.start, c.span-span.ensures.end) (e ∙ sym (cond-false (eqb (length ds) 0) _ _ (sym c.if-is_empty.ensures)))
