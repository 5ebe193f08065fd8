-- Writing and reading agree.
use Rattle.log_codec.specs.Laws.{FramesAreReadAgain, FramesHaveOneSpelling, HeadersAreReadAgain, HeadersHaveOneSpelling}
use Rattle.log_codec.proofs.Written.{framed_again, headed_again}
use Rattle.log_codec.proofs.Spelled.{framed_spelled, headed_spelled}

pub frames_again : FramesAreReadAgain
frames_again before e rest can fits = framed_again before e rest can fits

pub frames_spelled : FramesHaveOneSpelling
frames_spelled bytes at frame all read = let f = framed_spelled bytes at frame all read in (f.is, (f.can, f.numbers))

pub headers_again : HeadersAreReadAgain
headers_again h rest can fits = headed_again h rest can fits

pub headers_spelled : HeadersHaveOneSpelling
headers_spelled bytes x all read = let f = headed_spelled bytes x all read in (f.is, (f.can, f.numbers))
