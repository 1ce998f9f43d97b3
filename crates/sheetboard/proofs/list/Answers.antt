-- `list`: at each turn the bytes handed over are the next of the listing.
use Rattle.std.proofs.Common.{◌≡◌, ◌∙◌, refl, sym, ap, subst, List, ℕ, true, false, take, length, arith, rules}
use Rattle.std.proofs.lemmas.List.{take_all}
use Rattle.std.specs.Io.KnownBytes.{Appends}
use Rattle.listing.specs.Scripts.{listing}
use Rattle.listing.specs.Parts.{ended}
use Rattle.sheetboard.proofs.OutputLaws.{handing_begun, nothing_arrived, handing_ends, handing_goes, handing_follows, handing_most, handing_less, handing_arrives}
use Rattle.sheetboard.proofs.list.Goals as goal

pub loop-out-init : goal.loop-out-init
loop-out-init g c = record {
  room = refl;
  handing = handing_begun c.args.script.now (omega (arith, c.requires)) c.beginning-c.result c.beginning-c.ensures;
  bytes = search (rules, nothing_arrived);
}

pub write_part-requires : goal.write_part-requires
write_part-requires g c = omega (arith, c.loop-out.invariant.room, handing_most c.loop-out.invariant.handing)

pub returns-in_err-c-clause-handed : goal.returns-in_err-c-clause-handed
returns-in_err-c-clause-handed g c =
    let more : ended c.loop-out.c c.args.script.now ≡ false = sym c.is_ended.ensures ∙ c.loop-out-test.true in
    record { follows = handing_follows c.loop-out.invariant.handing more c.loop-out.out c.loop-out.invariant.room c.write_part.ensures.part; all = search rules }

pub loop-out-smaller : goal.loop-out-smaller
loop-out-smaller g c =
    let more : ended c.loop-out.c c.args.script.now ≡ false = sym c.is_ended.ensures ∙ c.loop-out-test.true in
    handing_less c.loop-out.invariant.handing more c.loop-out.out c.loop-out.invariant.room c.write_part.ensures.part c.in_ok-c.ensures.cursor

pub loop-out-preserved : goal.loop-out-preserved
loop-out-preserved g c =
    let more : ended c.loop-out.c c.args.script.now ≡ false = sym c.is_ended.ensures ∙ c.loop-out-test.true in
    record {
      room = search rules;
      handing = handing_goes c.loop-out.invariant.handing more c.loop-out.out c.loop-out.invariant.room c.write_part.ensures.part c.in_ok-c.ensures.cursor;
      bytes = handing_arrives c.loop-out.invariant.handing more c.loop-out.out c.loop-out.invariant.room c.write_part.ensures.part _ _ _ c.loop-out.invariant.bytes c.in_ok-c.ensures.bytes;
    }

pub returns-clause-handed : goal.returns-clause-handed
returns-clause-handed g c =
    let last : ended c.loop-out.c c.args.script.now ≡ true = sym c.is_ended.ensures ∙ c.loop-out-test.false in
    let all : c.loop-out.to.handed ≡ length (listing c.args.script.now) = handing_ends c.args.script.now c.loop-out.c c.loop-out.to.handed c.loop-out.invariant.handing last in
    record { follows = c.loop-out.invariant.handing.follows; all = λ e. all }

pub returns-clause-bytes : goal.returns-clause-bytes
returns-clause-bytes g c =
    let last : ended c.loop-out.c c.args.script.now ≡ true = sym c.is_ended.ensures ∙ c.loop-out-test.false in
    let all : c.loop-out.to.handed ≡ length (listing c.args.script.now) = handing_ends c.args.script.now c.loop-out.c c.loop-out.to.handed c.loop-out.invariant.handing last in
    subst (λ (x : List ℕ). Appends (g.W.Write.contents c.args.to.now.writer) (g.W.Write.contents c.loop-out.to.writer) x)
    (ap (λ (k : ℕ). take k (listing c.args.script.now)) all ∙ take_all _ _ (omega arith)) c.loop-out.invariant.bytes
