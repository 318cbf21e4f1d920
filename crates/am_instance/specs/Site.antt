-- The site of an instance, for those who speak of several instances (am_site).
pub use Rattle.am_site.specs.Arriving.{IsMade, IsRejected, decided_by, decides, with_brought}
pub use Rattle.am_site.specs.Deciding.{IsDecided, asked_by, asked_on, decides_on}
pub use Rattle.am_site.specs.Here.{here_of}
unfoldable pub use Rattle.am_site.specs.Locals.{local_of}
pub use Rattle.am_site.specs.Reacting.{StopsReacting}
pub use Rattle.am_site.specs.declared.here.Here.{Here as Given}
