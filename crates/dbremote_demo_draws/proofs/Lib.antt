mod EntriesRead
mod KeySets
mod Parting
mod Texts
mod UnderWay
