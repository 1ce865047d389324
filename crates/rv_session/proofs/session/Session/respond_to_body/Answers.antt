use Rattle.std.proofs.Common.{subst}
use Rattle.rv_gdb_protocol.specs.declared.request.Request.{Request}
use Rattle.rv_session.specs.SessionReplies.{IsReply}
use Rattle.rv_session.proofs.Appending.{both_ok, taken}
use Rattle.rv_session.proofs.session.Session.respond_to_body.Goals as goal

pub returns : goal.returns
returns c =
    let session = c.args.self.now in
    both_ok _ _ _ c.send.result c.send.ensures.out c.send.ensures.next
    (λ sent kept. taken session c.reply_to.new.self c.send.new.self c.args.body.now c.args.out.now.items c.acknowledge.new.out.items
    c.send.new.out.items c.in_ok-reply.reply c.in_ok-acknowledge.ensures
    (subst (λ (request : Request). IsReply session request c.in_ok-reply.reply c.reply_to.new.self) c.in_ok-request.ensures
    c.in_ok-reply.ensures)
    sent kept)
