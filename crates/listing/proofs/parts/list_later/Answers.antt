-- What the tests answer, and what is listed where they hold.
use Rattle.listing.proofs.parts.CaseLaws.{later_ended, later_refused, later_accepted, later_27, later_stays, later_part}
use Rattle.listing.proofs.parts.list_later.Goals as goal
use Rattle.listing.proofs.parts.list_later.Goals.{then-next-script+in-Ok+then-p-eq0, then-next-script+in-Ok+else-p-eq0, then-next-script+in-Err, else-next-script}

pub returns : goal.returns
returns c =
    let next = c.args.next.now in
    let s = c.args.script.now in
    let out = c.args.out.now in
    elim c.if-next-script.branch [
      | then-next-script+in-Ok+then-p-eq0 w ↦
          let may = later_accepted next s out w.if-next-script.true w.may_list.ensures w.in-Ok.is in
          rw (w.wrote-is, w.p-is, w.out-is, later_stays next s out w.if-next-script.true may.0 may.1 w.list_lines-p.ensures w.if-p-eq0.true)
          (later_27 next s out w.if-next-script.true may.0 may.1 w.list_lines-p.ensures w.if-p-eq0.true)
      | then-next-script+in-Ok+else-p-eq0 w ↦
          let may = later_accepted next s out w.if-next-script.true w.may_list.ensures w.in-Ok.is in
          rw (w.wrote-is, w.p-is, w.out-is) (later_part next s out w.if-next-script.true may.0 may.1 w.list_lines-p.ensures w.if-p-eq0.false)
      | then-next-script+in-Err w ↦ rw (w.wrote-is, w.p-is, w.out-is) (later_refused next s out w.if-next-script.true w.may_list.ensures w.in-Err.is)
      | else-next-script w ↦ rw (w.wrote-is, w.p-is, w.out-is) (later_ended next s out w.if-next-script.false)
    ]
